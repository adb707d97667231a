-- What a source and an outline that are accepted give the layout of their file.
use mathlib.Core.Path.{◌≡◌, refl, sym, ◌∙◌, subst}
use mathlib.Core.Bool.{true}
use mathlib.Core.List.{List, [], ◌∷◌}
use mathlib.Core.Option.{none}
use Prim.Native.Nat.{ℕ}
use native.Mathlib.Omega.{arith}
use lib.ListN.{length}
use borrow.Author.Tests.{eqb-true}
use Rattle.dogwood_rules.specs.Utf8.{decode}
use Rattle.dogwood_rules.specs.Token.{Token, Placed, kind_number, tokenise, placed, words_of, tokens as tokens_at}
use Rattle.dogwood_rules.specs.Outline.{statements, fits}
use Rattle.dogwood_rules.specs.File.{pieces}
use Rattle.dogwood_rules.specs.Searches.{first_comment}
use Rattle.dogwood_rules.proofs.Chains.{Chain, tokenise_made}
use Rattle.dogwood_rules.proofs.Files.{AllSane}
use Rattle.dogwood_rules.proofs.Fitting.{fits_says}
use Rattle.dogwood_rules.proofs.Number3.{tokens-placed}
use Rattle.dogwood_rules.proofs.Pieces.{pieces_say}
use Rattle.dogwood_layout.specs.View.{tokens, token_of}
use Rattle.dogwood_layout.specs.Places.{entries}
use Rattle.dogwood_formatter.proofs.Tokenised.{table-tokens}

-- a table that has the tokens of its places has the places too
entries_words : (text : List ℕ) (ps : List Placed) → tokens text (words_of ps) ≡ tokens_at ps → entries text (words_of ps) ≡ ps
unfolding entries tokens words_of tokens_at
entries_words text [] e = refl
entries_words text (p ∷ ps) e =
    let first : token_of text (record { kind = kind_number p.token.kind; start = p.start; end = p.stop }) ≡ p.token = cc in
    let rest : tokens text (words_of ps) ≡ tokens_at ps = cc in
    λ j. record { token = first j; start = p.start; stop = p.stop } ∷ entries_words text ps rest j

module _ (text cs : List ℕ) (d : decode text ≡ (cs, [])) (e : (tokenise cs).1 ≡ []) where
  abbrev places : List Placed
  places = placed 0 (tokenise cs).0

  pub table-entries : entries text (words_of places) ≡ places
  table-entries = entries_words text places (table-tokens text cs d e ∙ sym (tokens-placed 0 (tokenise cs).0))

  module _ (outline : List ℕ) (t : fits (length text) places outline ≡ true) where
    -- its records are read exactly
    pub outline_exact : (statements outline).1 ≡ []
    outline_exact = none_left (statements outline).1 (eqb-true (length (statements outline).1) 0 (fits_says (length text) places outline t).exact)
      where
        none_left : (l : List ℕ) → length l ≡ 0 → l ≡ []
        none_left [] h = refl
        none_left (x ∷ l) h = absurd (omega arith)

    -- each part can be laid out
    pub outline_sane : first_comment (statements outline).0 places ≡ none → AllSane (pieces (statements outline).0 (entries text (words_of places)))
    outline_sane c =
        let f = fits_says (length text) places outline t in
        let chain : Chain (tokenise cs).1 (tokens_at places) = subst (λ (ts : List Token). Chain (tokenise cs).1 ts) (sym (tokens-placed 0 (tokenise cs).0)) (tokenise_made cs).chain in
        subst (λ (ps : List Placed). AllSane (pieces (statements outline).0 ps)) (sym table-entries)
        (pieces_say (statements outline).0 places chain c f.outside f.covered f.balance f.used).sane
