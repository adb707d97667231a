use mathlib.Core.Path.{◌≡◌, sym, ap, ◌∙◌}
use mathlib.Core.List.{List, ◌++◌}
use Prim.Native.Nat.{ℕ}
use native.Mathlib.Omega.{arith}
use lib.ListN.{length, take, drop, replicate, length-take, length-replicate}
use Rattle.std.proofs.lemmas.List.{take-replicate}
use Rattle.pen.proofs.Laws.{over_front}
use Rattle.pen.proofs.put_copies.Goals as goal

pub returns : goal.returns
returns c =
    let args = c.args in
    let fits = c.clip-fits.result in
    let place = c.clip-fits.ensures.place in
    let text = replicate {A = ℕ} args.n args.b in
    let part : length (take fits args.out.now) ≡ fits = simp length-take (omega arith) in
    let written : c.fill.new.self ≡ take fits text =
    c.fill.ensures.after (λ y e. e) ∙ ap (λ (k : ℕ). replicate {A = ℕ} k args.b) part ∙ sym (take-replicate fits args.n args.b (omega arith)) in
    record {
      count = rw length-replicate c.clip.ensures.place;
      bytes = ap (λ (l : List ℕ). l ++ drop fits args.out.now) written ∙ over_front args.out.now text fits (rw length-replicate place);
    }
