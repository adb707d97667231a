-- Tokens that are some other tokens with the white space between them changed.
use mathlib.Core.Path.{◌≡◌, refl}
use mathlib.Core.Bool.{Bool, true, false}
use mathlib.Core.List.{List, [], ◌∷◌, ◌++◌}
use Prim.Native.Nat.{ℕ, zero, suc}
use native.Mathlib.Omega.{arith}
use lib.ListN.{replicate}
use Rattle.dogwood_rules.specs.Basic.{drop_front, drop_back, or_drop, trim}
use Rattle.dogwood_rules.specs.Token.{Token, Whitespace, white}
use Rattle.dogwood_rules.specs.Tree.{blank, is_whitespace}
use Rattle.dogwood_rules.specs.Made.{space, new_line, two_lines, shown_as, joined_as}
use Rattle.dogwood_rules.proofs.Runs.{AllPass, pass_end, pass_more}
use Rattle.dogwood_rules.proofs.Trim.{front_drops, front_keeps, back_keeps, space-white, lf_white}

-- White space that a layout puts -------------------------------------------------------------------------------------

pub record Gap (g : Token) : Type 0 where
  pub kind : g.kind ≡ Whitespace
  pub first : ℕ
  pub more : List ℕ
  pub text : g.text ≡ first ∷ more
  pub first_white : white first ≡ true
  pub more_white : AllPass white more

pub gap_blank_lem : {g : Token} → Gap g → blank g ≡ true
unfolding blank is_whitespace
gap_blank_lem h = rw h.kind refl

pub space-gap : Gap space
space-gap = record { kind = refl; first = 32; more = []; text = refl; first_white = space-white; more_white = pass_end }

pub spaces-white : (n : ℕ) → AllPass white (replicate n 32)
spaces-white zero = pass_end
spaces-white (suc n) = pass_more space-white (spaces-white n)

unfoldable pub line_gap : (n : ℕ) → Gap (new_line n)
line_gap n = record { kind = refl; first = 10; more = replicate n 32; text = refl; first_white = lf_white; more_white = spaces-white n }

unfoldable pub lines-gap : Gap two_lines
lines-gap = record { kind = refl; first = 10; more = 10 ∷ []; text = refl; first_white = lf_white; more_white = pass_more lf_white pass_end }

-- The relation ---------------------------------------------------------------------------------------------------------

-- the tokens of a list in their order: white space may be put anywhere between two, and is dropped only where white space stands
pub data Respaced : List Token → List Token → Type 0 where
  p_end : Respaced [] []
  p_keep : {t : Token} {ts os : List Token} → blank t ≡ false → Respaced ts os → Respaced (t ∷ ts) (t ∷ os)
  p_gap : {g : Token} {ts os : List Token} → Gap g → Respaced ts os → Respaced ts (g ∷ os)
  p_drop : {t g : Token} {ts os : List Token} → blank t ≡ true → Gap g → Respaced ts (g ∷ os) → Respaced (t ∷ ts) (g ∷ os)

pub respaced_append : {ts us os ps : List Token} → Respaced ts os → Respaced us ps → Respaced (ts ++ us) (os ++ ps)
respaced_append p_end q = q
respaced_append (p_keep b s) q = p_keep b (respaced_append s q)
respaced_append (p_gap g s) q = p_gap g (respaced_append s q)
respaced_append (p_drop b g s) q = p_drop b g (respaced_append s q)

pub respaced_empty : {ts os : List Token} → Respaced ts os → os ≡ [] → ts ≡ []
respaced_empty p_end e = refl
respaced_empty (p_keep b s) e = absurd (let z : ◌≡◌ {A = ℕ} 0 1 = cc in omega arith)
respaced_empty (p_gap g s) e = absurd (let z : ◌≡◌ {A = ℕ} 0 1 = cc in omega arith)
respaced_empty (p_drop b g s) e = absurd (let z : ◌≡◌ {A = ℕ} 0 1 = cc in omega arith)

-- each white-space token as a space
pub joined_respaced : (ts : List Token) → Respaced ts (joined_as ts)
unfolding joined_as shown_as
joined_respaced [] = p_end
joined_respaced (t ∷ ts) = go (joined_respaced ts) (blank t) refl
  where
    go : Respaced ts (joined_as ts) → (b : Bool) → blank t ≡ b → Respaced (t ∷ ts) (shown_as t ∷ joined_as ts)
    go h true e = rw e (p_drop e space-gap (p_gap space-gap h))
    go h false e = rw e (p_keep e h)

-- White space dropped at both ends -------------------------------------------------------------------------------------

respaced_front : {ts os : List Token} → Respaced ts os → Respaced (drop_front blank ts) (drop_front blank os)
respaced_front p_end = p_end
respaced_front (p_keep {t} {ts} {os} b s) = rw (front_keeps blank t ts b, front_keeps blank t os b) (p_keep b s)
respaced_front (p_gap {g} {ts} {os} h s) = rw (front_drops blank g os (gap_blank_lem h)) (respaced_front s)
respaced_front (p_drop {t} {g} {ts} {os} b h s) = rw (front_drops blank t ts b) (respaced_front s)

gap_back : (g : Token) (ts os : List Token) → Gap g → Respaced ts os → Respaced ts (or_drop blank g os)
gap_back g ts [] h s = rw (gap_blank_lem h) s
gap_back g ts (o ∷ os) h s = p_gap h s

drop_back_lem : (t g : Token) (us os : List Token) → blank t ≡ true → Gap g → Respaced us (or_drop blank g os) → Respaced (or_drop blank t us) (or_drop blank g os)
drop_back_lem t g [] os b h s = rw b s
drop_back_lem t g (u ∷ us) [] b h s = absurd (let q : u ∷ us ≡ [] = respaced_empty s (rw (gap_blank_lem h) refl) in let z : ◌≡◌ {A = ℕ} 0 1 = cc in omega arith)
drop_back_lem t g (u ∷ us) (o ∷ os) b h s = p_drop b h s

respaced_back : {ts os : List Token} → Respaced ts os → Respaced (drop_back blank ts) (drop_back blank os)
respaced_back p_end = p_end
respaced_back (p_keep {t} {ts} {os} b s) = rw (back_keeps blank t ts b, back_keeps blank t os b) (p_keep b (respaced_back s))
respaced_back (p_gap {g} {ts} {os} h s) = gap_back g (drop_back blank ts) (drop_back blank os) h (respaced_back s)
respaced_back (p_drop {t} {g} {ts} {os} b h s) = drop_back_lem t g (drop_back blank ts) (drop_back blank os) b h (respaced_back s)

pub respaced_trim : {ts os : List Token} → Respaced ts os → Respaced (trim blank ts) (trim blank os)
respaced_trim s = respaced_back (respaced_front s)
