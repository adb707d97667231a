-- Steps that are taken in a row, each at what the one before it left.
use Rattle.std.specs.Prelude.{◌≡◌, ◌⊎◌, ℕ, zero, suc, Bool, true, false, Result, Ok, Err, Option, List, codes}
use Rattle.std.specs.Io.KnownBytes.{Appends}
use Rattle.std.specs.Fn.{Shared}
use denote.MutBor.{MutBor}
use Rattle.files.specs.Written.{AppendsPart}

module _ {F I O E : Type 0} (g : Shared F (MutBor I × (MutBor O × Unit {0})) (Result Bool E × (MutBor I × (MutBor O × Unit {0})))) (f : F) where
  -- a step at i and o may answer r and leave i' and o'
  pub record Step (i : I) (o : O) (r : Result Bool E) (i' : I) (o' : O) : Type 0 where
    pub input : MutBor I
    pub output : MutBor O
    pub input_is : input.now ≡ i
    pub output_is : output.now ≡ o
    pub input_left : MutBor I
    pub output_left : MutBor O
    pub met : g.post f (input, (output, tt)) (r, (input_left, (output_left, tt)))
    pub left_input : input_left.now ≡ i'
    pub left_output : output_left.now ≡ o'

  -- n steps that say that there may be more
  abbrev pub Steps : ℕ → I → O → I → O → Type 0
  Steps zero i o i' o' = (i ≡ i') × (o ≡ o')
  Steps (suc n) i o i' o' = (j : I) × (p : O) × Steps n i o j p × Step j p (Ok true) i' o'

  -- the last step says that there is no more, or as many were taken as ever are
  pub record Ended (i : I) (o : O) (i' : I) (o' : O) : Type 0 where
    pub count : ℕ
    pub j : I
    pub p : O
    pub before : Steps count i o j p
    pub last : Step j p (Ok false) i' o' ⊎ ((count ≡ 18446744073709551615) × (j ≡ i') × (p ≡ o'))

  -- the last step fails
  pub record Failed (i : I) (o : O) (e : E) (i' : I) (o' : O) : Type 0 where
    pub count : ℕ
    pub j : I
    pub p : O
    pub before : Steps count i o j p
    pub last : Step j p (Err e) i' o'

  -- steps were taken through an input, or a line said that there is none
  abbrev pub Replayed : Option (List ℕ) → Option (List ℕ) → O → O → Type 0
  Replayed old new o o' = ((i : I) × (i' : I) × Ended i o i' o') ⊎ Appends old new (codes "no records\n")

  -- a step failed, or that line was not written whole
  abbrev pub Stopped : Option (List ℕ) → Option (List ℕ) → O → O → E → Type 0
  Stopped old new o o' e = ((i : I) × (i' : I) × Failed i o e i' o') ⊎ AppendsPart old new (codes "no records\n")
