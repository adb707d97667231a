-- That no fact about a text and its table is proved in two ways, which the fact of a ghost field has to show.
use Rattle.std.specs.Prelude.{List, [], ◌∷◌, ℕ}
use Rattle.std.proofs.Props.{props}
use Rattle.std.specs.Coded.{×_prop, Unit-prop, le_prop}
use Rattle.dogwood_layout.specs.declared.Entry.{Entry}
use Rattle.dogwood_layout.specs.View.{bytes_at, token_of, Held, Holds, Ready}
use Rattle.dogwood_rules.specs.Utf8.{encode}
use Rattle.std.specs.Prelude.{◌≡◌}

pub Held-prop : (text : List ℕ) (e : Entry) → IsProp (Held text e)
Held-prop text e x y =
    let spells_prop : IsProp (encode (token_of text e).text ≡ bytes_at text e) = hlevel props in
    λ i. record {
      ordered = le_prop x.ordered y.ordered i;
      inside = le_prop x.inside y.inside i;
      spells = spells_prop x.spells y.spells i;
    }

Holds-prop : (text ws : List ℕ) → IsProp (Holds text ws)
unfolding Holds
Holds-prop text [] = Unit-prop
Holds-prop text (k ∷ []) = λ x y. absurd x
Holds-prop text (k ∷ s ∷ []) = λ x y. absurd x
Holds-prop text (k ∷ s ∷ e ∷ ws) = ×_prop (Held-prop text (record { kind = k; start = s; end = e })) (Holds-prop text ws)

pub Ready-prop : (text ws : List ℕ) → IsProp (Ready text ws)
Ready-prop text ws x y =
    λ i. record {
      small = le_prop x.small y.small i;
      short = le_prop x.short y.short i;
      holds = Holds-prop text ws x.holds y.holds i;
    }
