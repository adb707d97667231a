-- THE TOKEN BRIDGE, a whole text: the tokens from a place on, and the string without end, are those of dogwood_rules.
use Prim.Native.Nat.{ℕ, suc, ◌+◌, ◌-◌, ◌<◌}
use mathlib.Core.Path.{◌≡◌, refl, sym, ap, ◌∙◌, subst}
use mathlib.Core.List.{List, [], ◌∷◌, map}
use mathlib.Core.Option.{Option as Maybe, none, some}
use native.Mathlib.Omega.{arith}
use native.Mathlib.Nat.{add-zero, zero-add}
use lib.ListN.{length, drop}
use Rattle.dogwood_rules.specs.Basic.{cut, cut_after}
use Rattle.dogwood_rules.specs.Utf8.{decode, byte_length}
use Rattle.dogwood_rules.specs.Token.{Placed, placed, token, tokenise}
use Rattle.dogwood_rules.specs.Token as R
use Rattle.dogwood_rules.proofs.Cutting.{cut_step, cut_stop}
use Rattle.dogwood_rules.proofs.Rules.{rule_of}
use Rattle.utf8.specs.Walk.{stop, go}
use Rattle.utf8.proofs.Walk.{from_ind, stop≢go}
use Rattle.utf8.proofs.Reading.{Reads, reads_end, reads_more, reads_at, length-decode}
use Rattle.dogwood_tokens.specs.declared.token.Lexeme.TheVariants.{Token, NoEnd, End}
use Rattle.dogwood_tokens.specs.Token.{lexeme, token_at}
use Rattle.dogwood_tokens.specs.Tokens.{Tok, tok, open_at, listed, token_step, tokens_from, sought, open_step, open_from}
use Rattle.dogwood_tokens.specs.Cursor.{tokens_at}
use Rattle.dogwood_tokens.proofs.Tokens.{tokens_onward, open_onward}
use Rattle.dogwood_tokens.proofs.Onwards.{reads-drop, length_parts}
use Rattle.dogwood_tokens.proofs.Front.{lexeme_of, token-reads}
use Rattle.std.specs.Prelude.{None, Option, Some}
use Rattle.dogwood_rows.specs.Kinds.{kind_of}

-- ---- one step, on both sides

pub data Turn (s : List ℕ) (i : ℕ) (cs : List ℕ) : Type 0 where
  turn_end : cs ≡ [] → token_at s i ≡ End → Turn s i cs
  turn_open : 0 < length cs → tokenise cs ≡ ([], cs) → token_at s i ≡ NoEnd → Turn s i cs
  turn-token :
      (t : R.Token) (rest : List ℕ) → tokenise cs ≡ (t ∷ (tokenise rest).0, (tokenise rest).1)
      → token_at s i ≡ Token (kind_of t.kind) (i + byte_length t.text)
      → Reads s (i + byte_length t.text) rest → byte_length t.text + byte_length rest ≡ byte_length cs → Turn s i cs

pub turn_of : (s : List ℕ) {i : ℕ} {cs : List ℕ} → Reads s i cs → Turn s i cs
unfolding token_at tokenise
turn_of s {i} (reads_end d) = turn_end refl (ap (lexeme s i) d)
turn_of s {i} (reads_more {c} {cs} d r) = by (token (c ∷ cs)) refl
  where
    by : (o : Maybe (R.Token × ℕ)) → token (c ∷ cs) ≡ o → Turn s i (c ∷ cs)
    by none h = turn_open (omega arith) (cut_stop token c cs h) (token-reads s i c cs d r ∙ ap (lexeme_of i) h)
    by (some p) h =
        let q = sym (rule_of c cs p.0 p.1 h).1 in
        turn-token p.0 (drop p.1 cs) (cut_step token c cs p.0 p.1 h) (token-reads s i c cs d r ∙ ap (lexeme_of i) h)
        (subst (λ (l : List ℕ). Reads s (i + byte_length l) (drop p.1 cs)) q (reads-drop s (suc p.1) (reads_more d r)))
        (ap (λ (l : List ℕ). byte_length l + byte_length (drop p.1 cs)) (sym q) ∙ length_parts (suc p.1) (c ∷ cs))

-- ---- the tokens

joined : (i : ℕ) (t : R.Token) (rest : List ℕ) (a : Tok) (r : List Tok) → a ≡ record { kind = kind_of t.kind; start = i; end = i + byte_length t.text }
    → r ≡ map tok (placed (i + byte_length t.text) (tokenise rest).0) → a ∷ r ≡ map tok (placed i (t ∷ (tokenise rest).0))
unfolding placed
joined i t rest a r p q = λ j. p j ∷ q j

pub tokens-reads : (s : List ℕ) (i : ℕ) (cs : List ℕ) → Reads s i cs → tokens_from s i ≡ map tok (placed i (tokenise cs).0)
unfolding tokens_from token_step tokenise cut cut_after placed
tokens-reads s =
    from_ind (token_step s) ◌∷◌ [] (length s) (tokens_onward s) (λ i ts. (cs : List ℕ) → Reads s i cs → ts ≡ map tok (placed i (tokenise cs).0))
    (λ i r e cs rd. stops i r e cs (turn_of s rd))
    (λ i j a r e p cs rd. goes i j a r e p cs (turn_of s rd))
  where
    stops : (i : ℕ) (r : List Tok) → listed i (token_at s i) ≡ stop r → (cs : List ℕ) → Turn s i cs → r ≡ map tok (placed i (tokenise cs).0)
    stops i r e cs (turn_end n q) =
        let z : [] ≡ r = cc in
        sym z ∙ ap (λ (l : List ℕ). map tok (placed i (tokenise l).0)) (sym n)
    stops i r e cs (turn_open l n q) =
        let z : [] ≡ r = cc in
        sym z ∙ ap (λ (x : List R.Token × List ℕ). map tok (placed i x.0)) (sym n)
    stops i r e cs (turn-token t rest n q rd b) = absurd (stop≢go (sym e ∙ ap (listed i) q))

    goes : (i j : ℕ) (a : Tok) (r : List Tok) → listed i (token_at s i) ≡ go a j → ((cs : List ℕ) → Reads s j cs → r ≡ map tok (placed j (tokenise cs).0))
        → (cs : List ℕ) → Turn s i cs → a ∷ r ≡ map tok (placed i (tokenise cs).0)
    goes i j a r e p cs (turn_end n q) = absurd (stop≢go (sym (ap (listed i) q) ∙ e))
    goes i j a r e p cs (turn_open l n q) = absurd (stop≢go (sym (ap (listed i) q) ∙ e))
    goes i j a r e p cs (turn-token t rest n q rd b) =
        let k : i + byte_length t.text ≡ j = cc in
        let y : a ≡ record { kind = kind_of t.kind; start = i; end = i + byte_length t.text } = cc in
        joined i t rest a r y (p rest (subst (λ (m : ℕ). Reads s m rest) k rd) ∙ ap (λ (m : ℕ). map tok (placed m (tokenise rest).0)) (sym k))
        ∙ ap (λ (x : List R.Token × List ℕ). map tok (placed i x.0)) (sym n)

-- ---- the string without end

open_some : (l : ℕ) (cs : List ℕ) → 0 < length cs → open_at l cs ≡ Some (l - byte_length cs)
open_some l [] h = absurd (omega arith)
open_some l (c ∷ cs) h = refl

pub open_reads : (s : List ℕ) (e i : ℕ) (cs : List ℕ) → Reads s i cs → i + byte_length cs ≡ e → open_from s i ≡ open_at e (tokenise cs).1
unfolding open_from open_step tokenise cut cut_after
open_reads s end =
    from_ind (open_step s) (λ u r. r) None (length s) (open_onward s) (λ i r. (cs : List ℕ) → Reads s i cs → i + byte_length cs ≡ end → r ≡ open_at end (tokenise cs).1)
    (λ i r e cs rd h. stops i r e cs h (turn_of s rd))
    (λ i j a r e p cs rd h. goes i j a r e p cs h (turn_of s rd))
  where
    stops : (i : ℕ) (r : Option ℕ) → sought i (token_at s i) ≡ stop r → (cs : List ℕ) → i + byte_length cs ≡ end → Turn s i cs → r ≡ open_at end (tokenise cs).1
    stops i r e cs h (turn_end n q) =
        let z : None ≡ r = cc in
        sym z ∙ ap (λ (l : List ℕ). open_at end (tokenise l).1) (sym n)
    stops i r e cs h (turn_open l n q) =
        let z : Some i ≡ r = cc in
        let y : i ≡ end - byte_length cs = omega arith in
        sym z ∙ ap Some y ∙ sym (open_some end cs l) ∙ ap (λ (x : List R.Token × List ℕ). open_at end x.1) (sym n)
    stops i r e cs h (turn-token t rest n q rd b) = absurd (stop≢go (sym e ∙ ap (sought i) q))

    goes : (i j : ℕ) (a : Unit {0}) (r : Option ℕ) → sought i (token_at s i) ≡ go a j → ((cs : List ℕ) → Reads s j cs → j + byte_length cs ≡ end → r ≡ open_at end (tokenise cs).1)
        → (cs : List ℕ) → i + byte_length cs ≡ end → Turn s i cs → r ≡ open_at end (tokenise cs).1
    goes i j a r e p cs h (turn_end n q) = absurd (stop≢go (sym (ap (sought i) q) ∙ e))
    goes i j a r e p cs h (turn_open l n q) = absurd (stop≢go (sym (ap (sought i) q) ∙ e))
    goes i j a r e p cs h (turn-token t rest n q rd b) =
        let k : i + byte_length t.text ≡ j = cc in
        p rest (subst (λ (m : ℕ). Reads s m rest) k rd) (omega arith) ∙ ap (λ (x : List R.Token × List ℕ). open_at end x.1) (sym n)

-- ---- the laws that the code's contracts go through

length-tok : (ps : List Placed) → length (map tok ps) ≡ length ps
length-tok [] = refl
length-tok (p ∷ ps) = ap suc (length-tok ps)

-- Of any bytes: of the characters up to the first bad place.
pub tokens_all : (s : List ℕ) → tokens_from s 0 ≡ map tok (placed 0 (tokenise (decode s).0).0)
tokens_all s = tokens-reads s 0 (decode s).0 (reads_at s 0)

pub open_all : (s : List ℕ) → open_from s 0 ≡ open_at (byte_length (decode s).0) (tokenise (decode s).0).1
open_all s = open_reads s (byte_length (decode s).0) 0 (decode s).0 (reads_at s 0) (zero-add (byte_length (decode s).0))

-- Of a text that is UTF-8.
module _ (s cs : List ℕ) (e : decode s ≡ (cs, [])) where
  all_read : byte_length cs ≡ length s
  all_read = sym (add-zero (byte_length cs)) ∙ ap (λ (x : List ℕ × List ℕ). byte_length x.0 + length x.1) (sym e) ∙ length-decode s

  pub tokens_seam : tokens_from s 0 ≡ map tok (placed 0 (tokenise cs).0)
  tokens_seam = tokens_all s ∙ ap (λ (x : List ℕ × List ℕ). map tok (placed 0 (tokenise x.0).0)) e

  pub open_seam : open_from s 0 ≡ open_at (length s) (tokenise cs).1
  open_seam =
      open_all s ∙ ap (λ (x : List ℕ × List ℕ). open_at (byte_length x.0) (tokenise x.0).1) e
      ∙ ap (λ (n : ℕ). open_at n (tokenise cs).1) all_read

  pub placed_seam : tokens_at s 0 ≡ placed 0 (tokenise cs).0
  unfolding tokens_at
  placed_seam = ap (λ (x : List ℕ × List ℕ). placed 0 (tokenise x.0).0) e

-- as many as the code's form has
pub count_all : (s : List ℕ) → length (tokens_from s 0) ≡ length (tokens_at s 0)
unfolding tokens_at
count_all s = ap length (tokens_all s) ∙ length-tok (placed 0 (tokenise (decode s).0).0)
