-- The mission's promises, said of what a call of `format_policies` is given, answers and leaves behind.
use Rattle.std.specs.Prelude.{◌≡◌, List, ℕ, ◌<◌, ◌≤◌, take}
use Rattle.dogwood_rules.specs.Utf8.{marked}
use Rattle.dogwood_rules.specs.Layout.{house}
use Rattle.dogwood_rules.specs.Promises.{Answered}
use Rattle.dogwood_rules.specs.Claims.{nonblank, tokens_in, Preserved, Kept}
use Rattle.dogwood_formatter.specs.Numbers.{Formatted, number, place, length}

-- a call that kept the promise of `format_policies`
pub record Call : Type 0 where
  pub source : List ℕ
  pub outline : List ℕ
  pub table : List ℕ
  pub output : List ℕ
  pub answer : Formatted
  -- afterwards
  pub table' : List ℕ
  pub output' : List ℕ
  pub kept : Answered house source outline table output (number answer) (place answer) (length answer) table' output'

-- One call ---------------------------------------------------------------------------------------------------------------

-- the bytes that a call says it wrote
abbrev pub wrote : Formatted → List ℕ → List ℕ
wrote r output' = take (length r) output'

-- what follows of a source, an outline and an output, with an answer and what the output holds then
pub record Promised (source outline output : List ℕ) (r : Formatted) (output' : List ℕ) : Type 0 where
  -- 3: "When the answer is 0, the output (after its copied mark) tokenises to the source's non-whitespace tokens, in order, same kind and bytes, comments
  -- cut at the right." In the strong form, of number 2's layout ..
  pub preserved : number r ≡ 0 → Preserved house source outline (wrote r output')
  -- .. and in these words alone
  pub said : number r ≡ 0 → Kept source (wrote r output')
  -- "otherwise hand the source back unchanged and say why by number"
  pub back : 0 < number r → number r ≤ 5 → wrote r output' ≡ source
  -- 1: "Refusals 11, 12, 13 and 15 leave the output untouched."
  pub untouched : 11 ≤ number r → (length r ≡ 0) × (output' ≡ output)

abbrev pub AllPromised : Type 0
AllPromised = (c : Call) → Promised c.source c.outline c.output c.answer c.output'

-- Two calls --------------------------------------------------------------------------------------------------------------

-- 3: "So two sources, both with a mark or both without, laid out to the same bytes have the same such tokens."
abbrev pub SameTokens : Type 0
SameTokens =
    (c d : Call)
    → marked c.source ≡ marked d.source
    → number c.answer ≡ 0
    → number d.answer ≡ 0
    → wrote c.answer c.output' ≡ wrote d.answer d.output'
    → nonblank (tokens_in c.source) ≡ nonblank (tokens_in d.source)
