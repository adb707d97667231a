-- What answers 2 and 5 tell: the first comment inside a statement, and the first opener that is nested too deep.
use Rattle.std.specs.Prelude.{true, false, List, [], ◌∷◌, ℕ, suc, ◌-◌, eqb, if◌then◌else◌}
use Rattle.std.proofs.Math.Option.{Option, none, some}
use Rattle.dogwood_rules.specs.Token.{Placed}
use Rattle.dogwood_rules.specs.Tree.{comment, opener, closer}
use Rattle.dogwood_rules.specs.Outline.{Span, Statement, within, beyond}

-- the first comment among some tokens
unfoldable pub comment_in : List Placed → Option ℕ
comment_in [] = none
comment_in (p ∷ ps) = elim (comment p.token) [ true ↦ some p.start | false ↦ comment_in ps ]

unfoldable pub or_else : Option ℕ → Option ℕ → Option ℕ
or_else none b = b
or_else (some a) b = some a

-- 01: "comment inside a statement", "start of the first one"
unfoldable pub first_comment : List Statement → List Placed → Option ℕ
first_comment [] ps = none
first_comment (s ∷ ss) ps = or_else (comment_in (within s.span ps)) (first_comment ss (beyond s.span ps))

-- 01: "nesting above 64", "first opener reaching depth 65". In a token run at depth d
unfoldable pub too_deep : ℕ → List Placed → Option ℕ
too_deep d [] = none
too_deep d (p ∷ ps) =
    elim (opener p.token) [
      | true ↦ elim (eqb d 64) [ true ↦ some p.start | false ↦ too_deep (suc d) ps ]
      | false ↦ too_deep (if closer p.token then d - 1 else d) ps
    ]

-- .. part by part: each begins at depth 0
unfoldable pub deep_part : List Span → List Placed → Option ℕ
deep_part [] ps = none
deep_part (s ∷ ss) ps = or_else (too_deep 0 (within s ps)) (deep_part ss (beyond s ps))

unfoldable pub deep_opener : List Statement → List Placed → Option ℕ
deep_opener [] ps = none
deep_opener (s ∷ ss) ps = or_else (deep_part s.parts (within s.span ps)) (deep_opener ss (beyond s.span ps))
