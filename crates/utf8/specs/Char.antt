-- What the decoder answers of a character.
use Rattle.std.specs.Prelude.{◌≡◌, Option, Some, ℕ}
use Rattle.std.proofs.Common.{ap}
use Rattle.utf8.specs.declared.Char.{Char}

-- the character c, of n bytes
abbrev pub char_of : ℕ → ℕ → Option Char
char_of c n = Some (record { code = c; len = n })

pub char_same : {c n d m : ℕ} → char_of c n ≡ char_of d m → (c ≡ d) × (n ≡ m)
char_same {c} {n} {d} {m} e =
    let h : record { code = c; len = n } ≡ record { code = d; len = m } = cc in
    (ap (λ (x : Char). x.code) h, ap (λ (x : Char). x.len) h)
