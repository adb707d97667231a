use Rattle.std.proofs.Common.{◌≡◌, ℕ, ◌+◌, ◌<◌, Option, List, [], ◌∷◌, ◌++◌, length, take, drop, get_or, codes, decimal, sym, ap, ◌∙◌, refl, subst, add-one, append_assoc, append-nil, take-append-drop}
use Rattle.std.proofs.Math.Seq.{take-suc}
use Rattle.std.specs.Io.KnownBytes.{Appends}
use Rattle.std.proofs.KnownBytes.{Appends-trans}
use Rattle.files.specs.Written.{AppendsPart, spaced}
use Rattle.files.proofs.Parts.{on_any, part_longer, part_after}
use Rattle.files.proofs.output.put_words.Goals as goal

spaced-append : (xs ys : List ℕ) → spaced (xs ++ ys) ≡ spaced xs ++ spaced ys
spaced-append [] ys = refl
spaced-append (x ∷ xs) ys = ap (λ l. (codes " " ++ decimal x) ++ l) (spaced-append xs ys) ∙ sym (append_assoc (codes " " ++ decimal x) (spaced xs) (spaced ys))

one_word_more : (xs : List ℕ) (i : ℕ) → i < length xs → spaced (take (i + 1) xs) ≡ spaced (take i xs) ++ (codes " " ++ decimal (get_or xs i 0))
one_word_more xs i h = rw add-one (ap spaced (take-suc xs i 0 h) ∙ spaced-append (take i xs) (get_or xs i 0 ∷ []) ∙ ap (λ l. spaced (take i xs) ++ l) (append-nil _))

-- what stands before a word, the word, and what is to come
around_word : (xs : List ℕ) (i : ℕ) → i < length xs → spaced xs ≡ (spaced (take i xs) ++ (codes " " ++ decimal (get_or xs i 0))) ++ spaced (drop (i + 1) xs)
around_word xs i h =
    let before = take (i + 1) xs in
    let after = drop (i + 1) xs in
    ap spaced (sym (take-append-drop (i + 1) xs)) ∙ spaced-append before after ∙ ap (λ l. l ++ spaced after) (one_word_more xs i h)

part_at_word : (old mid new : Option (List ℕ)) (xs : List ℕ) (i : ℕ) → i < length xs → Appends old mid (spaced (take i xs)) → AppendsPart mid new (codes " " ++ decimal (get_or xs i 0))
    → AppendsPart old new (spaced xs)
part_at_word old mid new xs i h p q =
    subst (AppendsPart old new) (sym (around_word xs i h)) (part_longer old new _ (spaced (drop (i + 1) xs)) (part_after old mid new (spaced (take i xs)) _ p q))

pub loop-word-preserved : goal.loop-word-preserved
loop-word-preserved g c =
    let e = one_word_more c.args.words.now c.loop-word.word-index c.loop-word-test.true in
    let word = subst (Appends _ _) (ap (λ n. codes " " ++ decimal n) c.from.ensures) (Appends-trans _ _ _ (codes " ") _ c.in_ok-put_text.ensures.ok c.in_ok-put_number.ensures.ok) in
    subst (Appends _ _) (sym e) (Appends-trans _ _ _ _ _ c.loop-word.invariant word)

pub returns-in_err-put_text-clause-err : goal.returns-in_err-put_text-clause-err
returns-in_err-put_text-clause-err g c =
    let part = part_longer _ _ (codes " ") _ c.in_err-put_text.ensures.err in
    on_any _ _ (part_at_word _ _ _ c.args.words.now c.loop-word.word-index c.loop-word-test.true c.loop-word.invariant part)

pub returns-in_err-put_number-clause-err : goal.returns-in_err-put_number-clause-err
returns-in_err-put_number-clause-err g c =
    let part = subst (AppendsPart _ _) (ap (λ n. codes " " ++ decimal n) c.from.ensures) (part_after _ _ _ (codes " ") _ c.in_ok-put_text.ensures.ok c.in_err-put_number.ensures.err) in
    on_any _ _ (part_at_word _ _ _ c.args.words.now c.loop-word.word-index c.loop-word-test.true c.loop-word.invariant part)
