-- The pieces of a text under an outline say what the text says.
use mathlib.Core.Path.{◌≡◌, refl, sym, ◌∙◌, ap, subst}
use mathlib.Core.Bool.{Bool, true, false, not, ◌&&◌}
use mathlib.Core.List.{List, [], ◌∷◌, ◌++◌, append_assoc}
use mathlib.Core.Option.{Option, none, some}
use Prim.Native.Nat.{ℕ, ◌+◌}
use native.Mathlib.Omega.{arith}
use lib.Dec.{ltb}
use Rattle.dogwood_rules.specs.Basic.{every, some?}
use Rattle.dogwood_rules.specs.Token.{Token, Kind, Whitespace, Comment, String, Identifier, Number, Symbol, Other, Placed, spell, tokens}
use Rattle.dogwood_rules.specs.Tree.{blank, comment, is_comment, is_whitespace}
use Rattle.dogwood_rules.specs.Outline.{Span, Statement, up_to, from, within, beyond, parts_of, plain, gaps_ok, balanced, each_ok, covered_ok, balance_ok, plain_ok, spans_of}
use Rattle.dogwood_rules.specs.File.{Piece, laid, remarks, pieces}
use Rattle.dogwood_rules.specs.Searches.{comment_in, first_comment, or_else}
use Rattle.dogwood_rules.specs.Claims.{nonblank}
use Rattle.dogwood_rules.specs.Made.{cut_right}
use Rattle.dogwood_rules.proofs.Below.{and_true}
use Rattle.dogwood_rules.proofs.Laid.{AllBlank, blanks_end, blanks_more}
use Rattle.dogwood_rules.proofs.Layouts.{nonblank-blank, nonblank-append, blanks_nonblank, free_front, free_back}
use Rattle.dogwood_rules.proofs.Spelt.{spell-append}
use Rattle.dogwood_rules.proofs.Chains.{Read, Chain, chain_end, chain_more}
use Rattle.dogwood_rules.proofs.Standing.{chain_stands}
use Rattle.dogwood_rules.proofs.Solids.{NoComment, no_comment_end, no_comment_lem, all_sound}
use Rattle.dogwood_rules.proofs.Files.{words_all, AllParts, parts_end, parts_more, piece_words, pieces_words, sane_remark, sane_laid, AllSane, sane_end, sane_more}

-- Lists of tokens --------------------------------------------------------------------------------------------------

split_tokens : (n : ℕ) (ps : List Placed) → tokens (up_to n ps) ++ tokens (from n ps) ≡ tokens ps
unfolding up_to from tokens
split_tokens n [] = refl
split_tokens n (p ∷ ps) = go (split_tokens n ps) (ltb p.start n) refl
  where
    go : tokens (up_to n ps) ++ tokens (from n ps) ≡ tokens ps → (b : Bool) → ltb p.start n ≡ b → tokens (up_to n (p ∷ ps)) ++ tokens (from n (p ∷ ps)) ≡ p.token ∷ tokens ps
    go h true e = rw (e, up_to, from) (ap (λ (l : List Token). p.token ∷ l) h)
    go h false e = rw (e, up_to, from) refl

-- before, in and behind a span
pub span_tokens : (s : Span) (ps : List Placed) → tokens (up_to s.start ps) ++ (tokens (within s ps) ++ tokens (beyond s ps)) ≡ tokens ps
unfolding within beyond
span_tokens s ps = ap (λ (l : List Token). tokens (up_to s.start ps) ++ l) (split_tokens s.stop (from s.start ps)) ∙ split_tokens s.start ps

chain_front : {k : List ℕ} (ts us : List Token) → Chain k (ts ++ us) → Chain (spell us ++ k) ts
chain_front [] us c = chain_end
chain_front {k} (t ∷ ts) us (chain_more r c) =
    chain_more (subst (λ (l : List ℕ). Read t l) (ap (λ (l : List ℕ). l ++ k) (spell-append ts us) ∙ append_assoc (spell ts) (spell us) k) r) (chain_front ts us c)

chain_back : {k : List ℕ} (ts us : List Token) → Chain k (ts ++ us) → Chain k us
chain_back [] us c = c
chain_back (t ∷ ts) us (chain_more r c) = chain_back ts us c

-- Gaps ---------------------------------------------------------------------------------------------------------------

abbrev quiet : Token → Bool
quiet t = not (plain t)

comment_not_blank : (k : Kind) → is_comment k ≡ true → is_whitespace k ≡ false
unfolding is_comment is_whitespace
comment_not_blank Whitespace e = sym e
comment_not_blank Comment e = refl
comment_not_blank String e = refl
comment_not_blank Identifier e = refl
comment_not_blank Number e = refl
comment_not_blank Symbol e = refl
comment_not_blank Other e = refl

quiet-blank : (b c : Bool) → not (not b && not c) ≡ true → c ≡ false → b ≡ true
quiet-blank true c e q = refl
quiet-blank false true e q = sym q
quiet-blank false false e q = e

pub record Said (ps : List Piece) (ts : List Token) : Type 0 where
  pub sane : AllSane ps
  pub same : pieces_words ps ≡ nonblank ts

remarks_say : {k : List ℕ} (ts : List Token) → Chain k ts → every quiet ts ≡ true → Said (remarks ts) ts
unfolding remarks nonblank plain blank comment
remarks_say [] c e = record { sane = sane_end; same = refl }
remarks_say {k} (t ∷ ts) (chain_more r c) e =
    let q = and_true (quiet t) (every quiet ts) e in
    go q.0 (remarks_say ts c q.1) (comment t) refl
  where
    go : quiet t ≡ true → Said (remarks ts) ts → (b : Bool) → comment t ≡ b → Said (remarks (t ∷ ts)) (t ∷ ts)
    go q h true w =
        rw (remarks, w)
        (record { sane = sane_more (sane_remark (spell ts ++ k) w r) h.sane; same = ap (λ (l : List Token). cut_right t ∷ l) h.same ∙ sym (loud (comment_not_blank t.kind w)) })
      where
        loud : blank t ≡ false → nonblank (t ∷ ts) ≡ cut_right t ∷ nonblank ts
        loud b = rw (b, nonblank) refl
    go q h false w = rw (remarks, w) (record { sane = h.sane; same = h.same ∙ sym (nonblank-blank t ts (quiet-blank (blank t) (comment t) q w)) })

-- Parts --------------------------------------------------------------------------------------------------------------

gap_blank_lem : (ts : List Token) → every quiet ts ≡ true → NoComment ts → AllBlank ts
unfolding plain
gap_blank_lem [] e n = blanks_end
gap_blank_lem (t ∷ ts) e (no_comment_lem w n) =
    let q = and_true (quiet t) (every quiet ts) e in
    blanks_more (quiet-blank (blank t) (comment t) q.0 w) (gap_blank_lem ts q.1 n)

record Split (ss : List Span) (ps : List Placed) : Type 0 where
  parts : AllParts (parts_of ss ps)
  same : words_all (parts_of ss ps) ≡ nonblank (tokens ps)

parts_split : {k : List ℕ} (ss : List Span) (ps : List Placed) → Chain k (tokens ps) → NoComment (tokens ps) → gaps_ok ss ps ≡ true → every (balanced 0) (parts_of ss ps) ≡ true → Split ss ps
unfolding parts_of gaps_ok
parts_split [] ps c n g b = record { parts = parts_end; same = sym (blanks_nonblank (gap_blank_lem (tokens ps) g n)) }
parts_split {k} (s ∷ ss) ps c n g b =
    let w = sym (span_tokens s ps) in
    let u = tokens (up_to s.start ps) in
    let i = tokens (within s ps) in
    let o = tokens (beyond s ps) in
    let c₁ : Chain k (u ++ (i ++ o)) = subst (λ (l : List Token). Chain k l) w c in
    let n₁ : NoComment (u ++ (i ++ o)) = subst NoComment w n in
    let g₁ = and_true (every quiet u) (gaps_ok ss (beyond s ps)) g in
    let b₁ = and_true (balanced 0 i) (every (balanced 0) (parts_of ss (beyond s ps))) b in
    let c₂ : Chain k (i ++ o) = chain_back u (i ++ o) c₁ in
    let n₂ : NoComment (i ++ o) = free_back u (i ++ o) n₁ in
    let h = parts_split ss (beyond s ps) (chain_back i o c₂) (free_back i o n₂) g₁.1 b₁.1 in
    record {
      parts = parts_more (record { stands = chain_stands (chain_front i o c₂); free = free_front i o n₂; sound = all_sound (chain_front i o c₂) (free_front i o n₂); balance = b₁.0 }) h.parts;
      same =
          ap (λ (l : List Token). nonblank i ++ l) h.same ∙ sym (nonblank-append i o)
          ∙ sym (nonblank-append u (i ++ o) ∙ ap (λ (l : List Token). l ++ nonblank (i ++ o)) (blanks_nonblank (gap_blank_lem u g₁.0 (free_front u (i ++ o) n₁))))
          ∙ ap nonblank (span_tokens s ps);
    }

-- Statements -----------------------------------------------------------------------------------------------------------

comment_free : (ps : List Placed) → comment_in ps ≡ none → NoComment (tokens ps)
unfolding comment_in tokens
comment_free [] e = no_comment_end
comment_free (p ∷ ps) e = go (λ h. comment_free ps h) (comment p.token) refl
  where
    go : (comment_in ps ≡ none → NoComment (tokens ps)) → (b : Bool) → comment p.token ≡ b → NoComment (p.token ∷ tokens ps)
    go ih true w = let z : some p.start ≡ none = rw (w, comment_in) at e in absurd (let y : ◌≡◌ {A = ℕ} 0 1 = cc in omega arith)
    go ih false w = no_comment_lem w (ih (rw (w, comment_in) at e))

else_none : (a b : Option ℕ) → or_else a b ≡ none → (a ≡ none) × (b ≡ none)
unfolding or_else
else_none none b e = (refl, e)
else_none (some n) b e = absurd (let y : ◌≡◌ {A = ℕ} 0 1 = cc in omega arith)

sane_append : {ps qs : List Piece} → AllSane ps → AllSane qs → AllSane (ps ++ qs)
sane_append sane_end b = b
sane_append (sane_more s a) b = sane_more s (sane_append a b)

pieces_words_append : (ps qs : List Piece) → pieces_words (ps ++ qs) ≡ pieces_words ps ++ pieces_words qs
pieces_words_append [] qs = refl
pieces_words_append (p ∷ ps) qs = ap (λ (l : List Token). piece_words p ++ l) (pieces_words_append ps qs) ∙ sym (append_assoc (piece_words p) (pieces_words ps) (pieces_words qs))

-- tokens of which one is neither white space nor a comment
some_word : (ts : List Token) → some? plain ts ≡ true → nonblank ts ≡ [] → ⊥
unfolding plain nonblank
some_word [] e n = let z : ◌≡◌ {A = ℕ} 0 1 = cc in omega arith
some_word (t ∷ ts) e n = go (λ f m. some_word ts f m) (blank t) refl
  where
    go : (some? plain ts ≡ true → nonblank ts ≡ [] → ⊥) → (b : Bool) → blank t ≡ b → ⊥
    go ih true q = ih (rw (q, some?) at e) (rw (q, nonblank) at n)
    go ih false q = let m : cut_right t ∷ nonblank ts ≡ [] = rw (q, nonblank) at n in let z : ◌≡◌ {A = ℕ} 0 1 = cc in omega arith

pub pieces_say : {k : List ℕ} (ss : List Statement) (ps : List Placed) → Chain k (tokens ps) → first_comment ss ps ≡ none → gaps_ok (spans_of ss) ps ≡ true → each_ok covered_ok ss ps ≡ true → each_ok balance_ok ss ps ≡ true → each_ok plain_ok ss ps ≡ true
    → Said (pieces ss ps) (tokens ps)
unfolding pieces first_comment gaps_ok spans_of each_ok covered_ok balance_ok plain_ok
pieces_say [] ps c f g v b u = remarks_say (tokens ps) c g
pieces_say {k} (s ∷ ss) ps c f g v b y =
    let w = sym (span_tokens s.span ps) in
    let u = tokens (up_to s.span.start ps) in
    let i = tokens (within s.span ps) in
    let o = tokens (beyond s.span ps) in
    let c₁ : Chain k (u ++ (i ++ o)) = subst (λ (l : List Token). Chain k l) w c in
    let c₂ : Chain k (i ++ o) = chain_back u (i ++ o) c₁ in
    let f₁ = else_none (comment_in (within s.span ps)) (first_comment ss (beyond s.span ps)) f in
    let g₁ = and_true (every quiet u) (gaps_ok (spans_of ss) (beyond s.span ps)) g in
    let v₁ = and_true (gaps_ok s.parts (within s.span ps)) (each_ok covered_ok ss (beyond s.span ps)) v in
    let b₁ = and_true (every (balanced 0) (parts_of s.parts (within s.span ps))) (each_ok balance_ok ss (beyond s.span ps)) b in
    let y₁ = and_true (some? plain i) (each_ok plain_ok ss (beyond s.span ps)) y in
    let r = remarks_say u (chain_front u (i ++ o) c₁) g₁.0 in
    let h = parts_split s.parts (within s.span ps) (chain_front i o c₂) (comment_free (within s.span ps) f₁.0) v₁.0 b₁.0 in
    let t = pieces_say ss (beyond s.span ps) (chain_back i o c₂) f₁.1 g₁.1 v₁.1 b₁.1 y₁.1 in
    record {
      sane = sane_append r.sane (sane_more (sane_laid h.parts (λ e. some_word i y₁.0 (sym h.same ∙ e))) t.sane);
      same =
          pieces_words_append (remarks u) (laid (parts_of s.parts (within s.span ps)) ∷ pieces ss (beyond s.span ps))
          ∙ ap (λ (l : List Token). l ++ (words_all (parts_of s.parts (within s.span ps)) ++ pieces_words (pieces ss (beyond s.span ps)))) r.same
          ∙ ap (λ (l : List Token). nonblank u ++ (l ++ pieces_words (pieces ss (beyond s.span ps)))) h.same
          ∙ ap (λ (l : List Token). nonblank u ++ (nonblank i ++ l)) t.same
          ∙ ap (λ (l : List Token). nonblank u ++ l) (sym (nonblank-append i o)) ∙ sym (nonblank-append u (i ++ o)) ∙ ap nonblank (span_tokens s.span ps);
    }
