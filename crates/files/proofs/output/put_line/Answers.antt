use Rattle.std.proofs.Common.{arith, rules, ◌≡◌, ℕ, ◌<◌, ◌≤◌, ◌-◌, List, [], ◌∷◌, ◌++◌, length, take, drop, get_or, codes, decimal, sym, ap, ◌∙◌, refl, subst}
use Rattle.std.proofs.lemmas.List.{take_rest}
use Rattle.std.proofs.KnownBytes.{Appends-trans}
use Rattle.std.specs.Io.KnownBytes.{Appends}
use Rattle.files.specs.Written.{AppendsPart, spaced, line_of}
use Rattle.files.proofs.Parts.{on_any, on_err, part_longer, part_after}
use Rattle.files.proofs.output.put_line.Goals as goal
use Rattle.files.proofs.output.put_line.Goals.{in-len1-up+in_ok-put_number+in_ok-put_words, in_default}

abbrev others : List ℕ → List ℕ
others ws = spaced (take (length ws - 1) (drop 1 ws))

line_pieces : (ws : List ℕ) (n : ℕ) → 0 < length ws → n ≡ get_or ws 0 0 → (decimal n ++ others ws) ++ codes "\n" ≡ line_of ws
line_pieces [] n h e = search rules
line_pieces (w ∷ ws) n h e = ap (λ k. (decimal k ++ others (w ∷ ws)) ++ codes "\n") e ∙ ap (λ l. (decimal w ++ spaced l) ++ codes "\n") (take_rest (w ∷ ws) 1)

no_pieces : (ws : List ℕ) → length ws ≤ 0 → codes "\n" ≡ line_of ws
no_pieces [] h = refl
no_pieces (w ∷ ws) h = search rules

pub returns-in_err-put_number-clause-err : goal.returns-in_err-put_number-clause-err
returns-in_err-put_number-clause-err g c =
    let ws = c.args.words.now in
    let first = decimal c.from.result in
    let part = part_longer _ _ (first ++ others ws) (codes "\n") (part_longer _ _ first (others ws) c.in_err-put_number.ensures.err) in
    on_any _ _ (subst (AppendsPart _ _) (line_pieces ws c.from.result c.in-len1-up.len_at_least c.from.ensures) part)

pub returns-in_err-put_words-clause-err : goal.returns-in_err-put_words-clause-err
returns-in_err-put_words-clause-err g c =
    let ws = c.args.words.now in
    let first = decimal c.from.result in
    let part = part_longer _ _ (first ++ others ws) (codes "\n") (part_after _ _ _ first (others ws) c.in_ok-put_number.ensures.ok c.in_err-put_words.ensures.err) in
    on_any _ _ (subst (AppendsPart _ _) (line_pieces ws c.from.result c.in-len1-up.len_at_least c.from.ensures) part)

pub returns-clause-err : goal.returns-clause-err
returns-clause-err g c =
    let ws = c.args.words.now in
    elim c.if-words-lt1.branch [
      | in-len1-up+in_ok-put_number+in_ok-put_words w ↦
          let first = decimal w.from.result in
          let before = Appends-trans _ _ _ first (others ws) w.in_ok-put_number.ensures.ok w.in_ok-put_words.ensures.ok in
          let here = subst (λ o. Appends (g.W.Write.contents c.args.out.now) (g.W.Write.contents o) (first ++ others ws)) (sym w.out-is) before in
          let all = line_pieces ws w.from.result w.in-len1-up.len_at_least w.from.ensures in
          on_err c.put_text.result _ _ (λ part. subst (AppendsPart _ _) all (part_after _ _ _ (first ++ others ws) (codes "\n") here part)) c.put_text.ensures.err
      | in_default w ↦
          let all = no_pieces ws (omega (arith, w.in_default)) in
          on_err c.put_text.result _ _ (λ part. subst (λ o. AppendsPart (g.W.Write.contents o) (g.W.Write.contents c.put_text.new.out) (line_of ws)) w.out-is (subst (AppendsPart _ _) all part)) c.put_text.ensures.err
    ]
