-- What a search of the rules gave, by what the code found.
use Rattle.std.specs.Prelude.{None, Some}
use mathlib.Core.Path.{◌≡◌, refl, sym, ap}
use mathlib.Core.Option.{Option as Maybe, none, some}
use Prim.Native.Nat.{ℕ}
use native.Mathlib.Omega.{arith}
use Rattle.dogwood_words.specs.Search.{found_of}

pub none_some : {X A : Type 0} {x : X} → None ≡ Some x → A
none_some e = absurd (let z : ◌≡◌ {A = ℕ} 0 1 = cc in omega arith)

pub some_same : {X : Type 0} {x y : X} → Some x ≡ Some y → x ≡ y
some_same e = cc

pub found_none : (o : Maybe ℕ) → None ≡ found_of o → o ≡ none
found_none none e = refl
found_none (some n) e = none_some e

pub found_some : (o : Maybe ℕ) {n : ℕ} → Some n ≡ found_of o → o ≡ some n
found_some none e = none_some (sym e)
found_some (some m) {n} e = ap some (let q : m ≡ n = cc in q)
