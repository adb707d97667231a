-- A beginning of what was to be written, where it is written in pieces.
use Rattle.std.proofs.Common.{◌≡◌, ℕ, ◌+◌, Option, Result, Ok, Err, OnErr, List, ◌++◌, length, take, drop, sym, ap, ◌∙◌, subst, append_assoc, take-append-drop}
use Rattle.std.proofs.Math.Seq.{take-append_seam, take-append-add}
use Rattle.std.specs.Io.KnownBytes.{Appends}
use Rattle.std.proofs.KnownBytes.{Appends-trans}
use Rattle.files.specs.Written.{AppendsPart}

-- all of a piece is a beginning of more
pub part_of_front : (old new : Option (List ℕ)) (a b : List ℕ) → Appends old new a → AppendsPart old new (a ++ b)
part_of_front old new a b p = (length a, subst (Appends old new) (sym (take-append_seam a b)) p)

-- a beginning of a piece is a beginning of more
pub part_longer : (old new : Option (List ℕ)) (a b : List ℕ) → AppendsPart old new a → AppendsPart old new (a ++ b)
part_longer old new a b p =
    let front = take p.0 a in
    let split : a ++ b ≡ front ++ (drop p.0 a ++ b) = ap (λ l. l ++ b) (sym (take-append-drop p.0 a)) ∙ append_assoc front (drop p.0 a) b in
    subst (AppendsPart old new) (sym split) (part_of_front old new front (drop p.0 a ++ b) p.1)

-- a piece, and then a beginning of the next
pub part_after : (old mid new : Option (List ℕ)) (a b : List ℕ) → Appends old mid a → AppendsPart mid new b → AppendsPart old new (a ++ b)
part_after old mid new a b p q = (length a + q.0, subst (Appends old new) (sym (take-append-add a b q.0)) (Appends-trans old mid new a (take q.0 b) p q.1))

-- what is known of an error follows from what was known of it
pub on_err : {T E : Type 0} (r : Result T E) (P Q : Type 0) → (P → Q) → OnErr r P → OnErr r Q
on_err (Ok x) P Q f p = p
on_err (Err e) P Q f p = f p

-- and it is known of any answer where it holds anyhow
pub on_any : {T E : Type 0} (r : Result T E) (P : Type 0) → P → OnErr r P
on_any (Ok x) P p = tt
on_any (Err e) P p = p
