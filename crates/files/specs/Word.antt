-- Words of bytes, low byte first.
use Rattle.std.specs.Prelude.{ℕ, zero, suc, ◌+◌, ◌*◌, ◌≡◌, List, [], ◌∷◌, ◌++◌, ◌<◌, Option, Some, None, length, take, get_or}
use Rattle.std.specs.Io.KnownBytes.{Consumes}
use Rattle.std.proofs.Common.{sym, ap, ◌∙◌}
use Rattle.std.proofs.Math.Seq.{take-append_seam}

-- the word whose four bytes begin at a place, a byte past the end read as 0
unfoldable pub word_at : List ℕ → ℕ → ℕ
word_at s i = get_or s i 0 + 256 * get_or s (i + 1) 0 + 65536 * get_or s (i + 2) 0 + 16777216 * get_or s (i + 3) 0

-- the first so many words
unfoldable pub words_of : List ℕ → ℕ → List ℕ
words_of s zero = []
words_of s (suc n) = words_of s n ++ (word_at s (4 * n) ∷ [])

-- no second answer keeps the promise of `word`, and no second list that of `take_words`
pub word_only : (s : List ℕ) (i r r' : ℕ) → r ≡ word_at s i → r' ≡ word_at s i → r ≡ r'
word_only s i r r' p q = p ∙ sym q

pub words_only : (s : List ℕ) (n : ℕ) (ws ws' : List ℕ) → ws ≡ words_of s n → ws' ≡ words_of s n → ws ≡ ws'
words_only s n ws ws' p q = p ∙ sym q

-- a reader has lost the bytes of n words, and these are they
pub record BeginsWith (before after : Option (List ℕ)) (n : ℕ) (words : List ℕ) : Type 0 where
  pub bytes : List ℕ
  pub taken : Consumes before after bytes
  pub whole : length bytes ≡ 4 * n
  pub are : words ≡ words_of bytes n

-- a reader has lost fewer bytes than those of n words
pub record EndsBefore (before after : Option (List ℕ)) (n : ℕ) : Type 0 where
  pub bytes : List ℕ
  pub taken : Consumes before after bytes
  pub few : length bytes < 4 * n

-- the bytes of n words, of a reader whose bytes are known, are its first
lost_first : (all : List ℕ) (after : Option (List ℕ)) (n : ℕ) (ws : List ℕ) (h : BeginsWith (Some all) after n ws) → h.bytes ≡ take (4 * n) all
lost_first all None n ws h = absurd h.taken
lost_first all (Some rest) n ws h = sym ((λ i. take (sym h.whole i) (h.taken i)) ∙ take-append_seam h.bytes rest)

-- no second words stand next in a reader whose bytes are known
pub head_only : (all : List ℕ) (after after' : Option (List ℕ)) (n : ℕ) (ws ws' : List ℕ) → BeginsWith (Some all) after n ws → BeginsWith (Some all) after' n ws' → ws ≡ ws'
head_only all after after' n ws ws' p q =
    p.are ∙ ap (λ l. words_of l n) (lost_first all after n ws p ∙ sym (lost_first all after' n ws' q)) ∙ sym q.are
