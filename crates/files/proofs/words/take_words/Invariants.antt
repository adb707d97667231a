-- The first words are in place.
use Rattle.std.proofs.Common.{◌≡◌, length, take}
use Rattle.files.specs.Word.{words_of}
use Rattle.files.proofs.words.take_words.Given as goal

abbrev pub invariant-loop-i : goal.invariant-loop-i
invariant-loop-i l = (length l.words ≡ length l.initial.words) × (take l.i l.words ≡ words_of l.bytes l.i)
