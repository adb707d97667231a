-- The words so far came after what was there.
use Rattle.std.proofs.Common.{take}
use Rattle.std.specs.Io.KnownBytes.{Appends}
use Rattle.files.specs.Written.{spaced}
use Rattle.files.proofs.output.put_words.Given as goal

abbrev pub invariant-loop-word : goal.invariant-loop-word
invariant-loop-word g l = Appends (g.W.Write.contents l.initial.out) (g.W.Write.contents l.out) (spaced (take l.word-index l.words))
