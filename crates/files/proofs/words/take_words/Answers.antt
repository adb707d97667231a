use Rattle.std.proofs.Common.{ℕ, ◌+◌, ◌*◌, ◌<◌, ◌≡◌, List, length, take, sym, ◌∙◌, refl, arith, add-one, take_all}
use Rattle.std.proofs.Math.ListN.{set, length-set}
use Rattle.std.proofs.Math.Seq.{take-suc-set}
use Rattle.files.specs.Word.{word_at, words_of}
use Rattle.files.proofs.words.take_words.Goals as goal

-- the first words are in place, and one more is stored behind them
one_more : (s ws : List ℕ) (i v : ℕ) → i < length ws → take i ws ≡ words_of s i → v ≡ word_at s (4 * i) → take (i + 1) (set ws i v) ≡ words_of s (i + 1)
unfolding words_of
one_more s ws i v h e f = rw (add-one, take-suc-set ws i v h) (cc)

all_there : (s ws : List ℕ) (n i : ℕ) → length ws ≡ n → i ≡ n → take i ws ≡ words_of s i → ws ≡ words_of s n
all_there s ws n i h e f = let g : take n ws ≡ words_of s n = rw e at f in sym (take_all n ws (omega arith)) ∙ g

pub loop-i-init : goal.loop-i-init
unfolding words_of
loop-i-init c = (refl, refl)

pub loop-i-preserved : goal.loop-i-preserved
loop-i-preserved c = (
  length-set c.loop-i.words c.loop-i.i _ ∙ c.loop-i.invariant.0,
  one_more c.args.bytes.now c.loop-i.words c.loop-i.i c.word.result (omega arith) c.loop-i.invariant.1 c.word.ensures,
)

pub returns : goal.returns
returns c = all_there c.args.bytes.now c.loop-i.words _ c.loop-i.i c.loop-i.invariant.0 (omega arith) c.loop-i.invariant.1
