use Rattle.std.proofs.Common.{◌≡◌, ℕ, ◌+◌, ◌-◌, ◌≤◌, List, ◌++◌, rules, length, take, drop, sym, ap, ◌∙◌, subst, le_refl, drop_at, length-take-le}
use Rattle.std.proofs.Math.Seq.{take-add, take-append-le}
use Rattle.std.proofs.lemmas.Slice.{take-put_mid_below}
use Rattle.std.specs.Io.KnownBytes.{Consumes}
use Rattle.std.proofs.KnownBytes.{Consumes-trans}
use borrow.Rule.Slice.PartMut.{put_mid, post_of}
use Rattle.files.proofs.input.fill.Goals as goal

-- n bytes were put in place behind the first a
one_read_more : (a n k : ℕ) (xs ys : List ℕ) → a ≤ length xs → n ≤ length ys → take (a + n) (put_mid a k xs ys) ≡ take a xs ++ take n ys
one_read_more a n k xs ys within fits =
    let after = post_of a k xs in
    let rest = ap (take n) (drop_at (take a xs) (ys ++ after) a (length-take-le a xs within)) ∙ take-append-le n ys after fits in
    take-add a n (put_mid a k xs ys) ∙ ap (λ l. l ++ take n (drop a (put_mid a k xs ys))) (take-put_mid_below a k xs ys a (le_refl _) within) ∙ ap (λ l. take a xs ++ l) rest

pub loop-len-preserved : goal.loop-len-preserved
loop-len-preserved g c =
    let before = c.loop-len.len in
    let joined = one_read_more before c.in-Ok.n (length c.loop-len.buf - before) c.loop-len.buf c.read.new.buf c.loop-len.invariant.within c.in-Ok.ensures.bound.0 in
    record {
      same_length = search rules;
      within = search rules;
      taken = subst (Consumes _ _) (sym joined) (Consumes-trans _ _ _ _ _ c.loop-len.invariant.taken c.in-Ok.ensures.bytes.0);
    }
