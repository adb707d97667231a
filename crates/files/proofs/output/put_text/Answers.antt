use Rattle.std.proofs.Common.{◌≡◌, ℕ, Bor, Option, List, ◌++◌, take, drop, sym, ap, ◌∙◌, subst, append_assoc, take-append-drop}
use Rattle.std.proofs.lemmas.List.{take_rest}
use Rattle.std.specs.Io.KnownBytes.{Appends}
use Rattle.std.proofs.KnownBytes.{Appends-trans, Appends-kept}
use Rattle.files.specs.Written.{AppendsPart}
use Rattle.files.proofs.Parts.{part_of_front}
use Rattle.files.proofs.output.put_text.Goals as goal
use Rattle.files.proofs.output.put_text.Goals.{in-Ok, in-Err+else-ne}

moves_front : (all done rest : List ℕ) (n : ℕ) → all ≡ done ++ rest → all ≡ (done ++ take n rest) ++ drop n rest
moves_front all done rest n e = e ∙ ap (λ l. done ++ l) (sym (take-append-drop n rest)) ∙ sym (append_assoc done (take n rest) (drop n rest))

split_part : (old new : Option (List ℕ)) (all done rest : List ℕ) → all ≡ done ++ rest → Appends old new done → AppendsPart old new all
split_part old new all done rest e p = subst (AppendsPart old new) (sym e) (part_of_front old new done rest p)

pub returns-in-Ok-eq0-clause-err : goal.returns-in-Ok-eq0-clause-err
returns-in-Ok-eq0-clause-err g c =
    let (done, split, appended) = c.loop.invariant in
    let rest = c.loop.rest.now in
    let n = c.in-Ok-eq0.field-0 in
    split_part _ _ _ (done ++ take n rest) (drop n rest) (moves_front _ done rest n split) (Appends-trans _ _ _ done (take n rest) appended c.in-Ok-eq0.ensures.bytes)

pub returns-then-ne-clause-err : goal.returns-then-ne-clause-err
returns-then-ne-clause-err g c =
    let (done, split, appended) = c.loop.invariant in
    split_part _ _ _ done c.loop.rest.now split (Appends-kept _ _ _ done appended c.in-Err.ensures.bytes)

pub loop-preserved : goal.loop-preserved
loop-preserved g c =
    let (done, split, appended) = c.loop.invariant in
    let rest = c.loop.rest.now in
    elim c.match-write.branch [
      | in-Ok w ↦
          let n = w.in-Ok.n in
          let left : c.match-write.rest.now ≡ drop n rest = ap (λ (r : Bor (List ℕ)). r.now) w.rest-is ∙ take_rest rest n in
          (done ++ take n rest, moves_front _ done rest n split ∙ ap (λ l. (done ++ take n rest) ++ l) (sym left), Appends-trans _ _ _ done (take n rest) appended w.in-Ok.ensures.bytes)
      | in-Err+else-ne w ↦
          let left : c.match-write.rest.now ≡ rest = ap (λ (r : Bor (List ℕ)). r.now) w.rest-is in
          (done, split ∙ ap (λ l. done ++ l) (sym left), Appends-kept _ _ _ done appended w.in-Err.ensures.bytes)
    ]

pub returns-clause-err : goal.returns-clause-err
returns-clause-err g c =
    let (done, split, appended) = c.loop.invariant in
    split_part _ _ _ done c.loop.rest.now split appended
