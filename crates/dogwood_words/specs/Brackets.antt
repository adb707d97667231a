-- A token's kind and the first byte of its text tell a bracket and a separator.
use Rattle.std.specs.Prelude.{ℕ, Bool, ◌&&◌, ◌||◌, eqb}

-- a Symbol that begins with one of ( [ {
unfoldable pub opening : ℕ → ℕ → Bool
opening kind first = eqb kind 5 && (eqb first 40 || eqb first 91 || eqb first 123)

-- a Symbol that begins with one of ) ] }
unfoldable pub closing : ℕ → ℕ → Bool
closing kind first = eqb kind 5 && (eqb first 41 || eqb first 93 || eqb first 125)

-- a Symbol that begins with ,
unfoldable pub comma : ℕ → ℕ → Bool
comma kind first = eqb kind 5 && eqb first 44

-- a Symbol that begins with & or |: there is none but && and ||
unfoldable pub and_or : ℕ → ℕ → Bool
and_or kind first = eqb kind 5 && (eqb first 38 || eqb first 124)
