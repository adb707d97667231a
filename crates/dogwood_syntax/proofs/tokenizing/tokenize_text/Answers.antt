use Prim.Native.Nat.{◌/◌}
use mathlib.Core.Path.{sym, ◌∙◌}
use native.Mathlib.Omega.{arith}
use lib.ListN.{length}
use Rattle.dogwood_rules.specs.Token.{words_of}
use Rattle.dogwood_tokens.specs.Cursor.{tokens_at}
use Rattle.dogwood_syntax.proofs.Filling.{short_some, short_none, length_words, sets_front, answer_open, answer_small, answer_done, table_of}
use Rattle.dogwood_syntax.proofs.tokenizing.tokenize_text.Goals as goal

pub returns-in-Some : goal.returns-in-Some
returns-in-Some c =
    let s = c.args.text.now in
    let t = c.args.table.now in
    let o = sym c.first_open.ensures ∙ c.in-Some.is in
    let e = answer_open s (length t) o in
    record { value = sym e; table_after = sym (table_of s t e) }

pub returns-in-Some-shortage : goal.returns-in-Some-shortage
returns-in-Some-shortage c =
    let s = c.args.text.now in
    let t = c.args.table.now in
    let o = sym c.first_open.ensures ∙ c.in_default.is in
    let q = short_some (length t / 3) (length (tokens_at s 0)) _ (sym c.shortage.ensures ∙ c.in-Some-shortage.is) in
    let e = answer_small s (length t) o q.1 (omega arith) in
    record { value = sym e; table_after = sym (table_of s t e) }

pub returns : goal.returns
returns c =
    let s = c.args.text.now in
    let t = c.args.table.now in
    let o = sym c.first_open.ensures ∙ c.in_default.is in
    let q = short_none (length t / 3) (length (tokens_at s 0)) (sym c.shortage.ensures ∙ c.in_default-shortage.is) in
    let w = length_words (tokens_at s 0) in
    let f = c.fill.ensures in
    let e = answer_done s (length t) o (sym f.total) (omega (arith, f.total)) in
    record { value = sym e; table_after = f.written (omega arith) ∙ sets_front (words_of (tokens_at s 0)) t (omega arith) ∙ sym (table_of s t e) }
