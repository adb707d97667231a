-- The numbers of document 01 for each answer, what stands beside them, and that they tell the answers apart.
use Rattle.std.specs.Prelude.{◌≡◌, refl, List, ℕ, Result, Ok, Err, eqb, if◌then◌else◌}
use Rattle.std.proofs.Common.{sym, ◌∙◌}
use Rattle.dogwood_rules.specs.Layout.{house}
use Rattle.dogwood_rules.specs.Promises.{Answered, answered-only}
use Rattle.dogwood_outline.specs.declared.judging.Objection.TheVariants.{Misfit, Remarked, Empty, Deep}
use Rattle.dogwood_outline.specs.Verdicts as Verdicts
use Rattle.dogwood_formatter.specs.declared.format.Reason.{Reason}
use Rattle.dogwood_formatter.specs.declared.format.Reason.TheVariants.{Unended, Objected}
use Rattle.dogwood_formatter.specs.declared.format.NotFormatted.{NotFormatted}
use Rattle.dogwood_formatter.specs.declared.format.NotFormatted.TheVariants.{HandedBack, TooLong, NotUtf8, Small, NoRoom}

-- how many bytes a layout has, or why there is none
abbrev pub Formatted : Type 0
Formatted = Result ℕ NotFormatted

abbrev pub reason_number : Reason → ℕ
reason_number (Unended p) = 1
reason_number (Objected o) = Verdicts.number (Err o)

abbrev pub reason_place : Reason → ℕ
reason_place (Unended p) = p
reason_place (Objected o) = Verdicts.place (Err o)

abbrev pub number : Formatted → ℕ
number (Ok n) = 0
number (Err (HandedBack r n)) = reason_number r
number (Err TooLong) = 11
number (Err (NotUtf8 p)) = 12
number (Err (Small n)) = 13
number (Err (NoRoom n)) = 15

-- the place, the tokens needed, or the bytes needed
abbrev pub place : Formatted → ℕ
place (Ok n) = 0
place (Err (HandedBack r n)) = reason_place r
place (Err TooLong) = 0
place (Err (NotUtf8 p)) = p
place (Err (Small n)) = n
place (Err (NoRoom n)) = n

-- how many bytes were written
abbrev pub length : Formatted → ℕ
length (Ok n) = n
length (Err (HandedBack r n)) = n
length (Err TooLong) = 0
length (Err (NotUtf8 p)) = 0
length (Err (Small n)) = 0
length (Err (NoRoom n)) = 0

-- the answer again
abbrev answer_of : ℕ → ℕ → ℕ → Formatted
answer_of n p l =
    if eqb n 0 then Ok l
    else if eqb n 1 then Err (HandedBack (Unended p) l)
    else if eqb n 2 then Err (HandedBack (Objected (Remarked p)) l)
    else if eqb n 3 then Err (HandedBack (Objected Empty) l)
    else if eqb n 4 then Err (HandedBack (Objected Misfit) l)
    else if eqb n 5 then Err (HandedBack (Objected (Deep p)) l)
    else if eqb n 11 then Err TooLong
    else if eqb n 12 then Err (NotUtf8 p)
    else if eqb n 13 then Err (Small p)
    else Err (NoRoom p)

again : (a : Formatted) → answer_of (number a) (place a) (length a) ≡ a
again (Ok n) = refl
again (Err (HandedBack (Unended p) n)) = refl
again (Err (HandedBack (Objected (Remarked p)) n)) = refl
again (Err (HandedBack (Objected Empty) n)) = refl
again (Err (HandedBack (Objected Misfit) n)) = refl
again (Err (HandedBack (Objected (Deep p)) n)) = refl
again (Err TooLong) = refl
again (Err (NotUtf8 p)) = refl
again (Err (Small n)) = refl
again (Err (NoRoom n)) = refl

-- no second answer, no second table and no second output keeps the promise of `format_policies`
pub format-policies-only :
    (source outline table output : List ℕ) (a b : Formatted) (T₁ T₂ O₁ O₂ : List ℕ)
    → Answered house source outline table output (number a) (place a) (length a) T₁ O₁
    → Answered house source outline table output (number b) (place b) (length b) T₂ O₂
    → (a ≡ b) × (T₁ ≡ T₂) × (O₁ ≡ O₂)
format-policies-only source outline table output a b T₁ T₂ O₁ O₂ p q =
    let h = answered-only house source outline table output (number a) (number b) (place a) (place b) (length a) (length b) T₁ T₂ O₁ O₂ p q in
    (sym (again a) ∙ (λ i. answer_of (h.0 i) (h.1 i) (h.2 i)) ∙ again b, h.3, h.4)
