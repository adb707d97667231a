use Rattle.std.proofs.Common.{eqb, ◌≡◌, ◌*◌, ◌∙◌, ap, inl, rules, tests, arith, List, ℕ, Bool, length}
use Rattle.std.proofs.lemmas.Iterator.Consumers.{count_from_yields_List, YieldsList-from_first}
use Rattle.std.proofs.lemmas.Iterator.Search.{YieldsList-from_take_while}
use Rattle.std.proofs.lemmas.List.Folds.{length-prefix_len}
use Rattle.dogwood_layout.specs.declared.Entry.{Entry}
use Rattle.dogwood_layout.specs.View.{rows}
use Rattle.dogwood_layout.specs.Ends.{front_len}
use Rattle.dogwood_layout.proofs.Ends.{front_fits}
use Rattle.dogwood_runs.specs.Promises.{entries_left}
use Rattle.dogwood_runs.proofs.Pieces.{front_entries, entries_few}
use Rattle.dogwood_runs.proofs.run.lead.Goals as goal

pub count-requires-clause-fits : goal.count-requires-clause-fits
count-requires-clause-fits c =
    let all : length (entries_left c.take_while-blanks.result.iter) ≡ length (rows c.args.table.now) = ap length (cc) in
    let few = entries_few c.args.table.now in
    let g = c.well_formed in
    inl (omega arith)

-- how many were counted
front : (c : goal.After-count) → c.count.result ≡ front_len c.args.table.now
front c =
    let s : List Entry = rows c.args.table.now in
    let t : Entry → Bool = λ r. eqb r.kind 0 in
    count_from_yields_List c.take_while-blanks.result _ c.count.ensures.ran (YieldsList-from_take_while _ t (YieldsList-from_first (λ x. x) entries_left s cc) c.take_while-blanks.ensures.closure c.take_while-blanks.ensures.done (λ x b q k. search (rules, tests))) ∙ length-prefix_len t s ∙ front_entries c.args.table.now

pub overflow_mul-result : goal.overflow_mul-result
overflow_mul-result c = let n = front c in let f = front_fits c.args.table.now in let g = c.well_formed in omega arith

pub returns : goal.returns
returns c = ap (λ (m : ℕ). 3 * m) (front c)
