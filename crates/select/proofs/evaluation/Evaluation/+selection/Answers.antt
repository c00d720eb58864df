-- The members of the cycle meet their contracts: what the check doesn't find alone.
-- Assumes nothing.
use Rattle.std.proofs.Common.{◌≡◌, refl, sym, ap, ◌∙◌, ℕ, ◌<◌, ◌≤◌, Bool, true, false, not, List, length, get_or, drop, replicate, length-set, length-take-le, take_all, rules, arith}
use Rattle.std.proofs.lemmas.List.{get_or-replicate, take-append-le}
use Rattle.meaning.proofs.Evaluation.{kept_by_lem, filtered_none, filtered_row, select_none, select_row, value_none, value_over_path, value_leaf, value_one, value_two, value_decided, walk_none, walk_row}
use Rattle.meaning.proofs.Filters.{kept_start, kept_skip, kept_more, kept_done}
use Rattle.meaning.proofs.Marks.{no_marks, reached_start, reached_skip, reached_more, reached_done}
use Rattle.meaning.specs.Table.{most_rows, rows}
use Rattle.select.proofs.Sets.{absolute_decided, relative_decided, all_decided, near_decided, led_by, led_none, led_row, narrowed_none, narrowed_by, settled_low, not_decided, raised_low, pair_decided, strode, thinned_none, thinned_row, put_low}
use Rattle.sieve.proofs.Sieves.{sieved_bounded, sieved_start, sieved_skip, sieved_write, sieved_done}
use Rattle.select.proofs.evaluation.Evaluation.+selection.Goals as goal
use Rattle.select.proofs.evaluation.Evaluation.+selection.Goals.{decide_back-then-heavy, decide_back-else-heavy, decide_each-then-states-node, decide_each-else-states-node, keep-then-keeps, keep-else-keeps, step-then-marks-x, step-else-marks-x}

-- a buffer that is filled with one value has it at each row
filled : {A : Type 0} (v d : A) (n : ℕ) → n ≤ most_rows → (y : ℕ) → y < n → get_or (replicate most_rows v) y d ≡ v
filled v d n small y l = get_or-replicate most_rows y v d (omega (arith, small, l))

-- `back`: the last step back, then those before it.

pub back-returns-then-link-eq0 : goal.back-returns-then-link-eq0
back-returns-then-link-eq0 t c = led_none _ _ _ _ _ _ _ c.if-link-eq0.true

pub back-returns : goal.back-returns
back-returns t c =
    let step = c.of_row.ensures in
    led_row _ _ _ _ _ c.if-link-eq0.false _ _ c.first_link-before.ensures.0 step.predicates.0 _ _ _ _ _ _ step.axis step.test c.step_back.ensures c.back.ensures

-- `decide_back`: back from all rows, over all rows where nothing is heavy, else over those that the chain may come by.

pub decide_back-returns : goal.decide_back-returns
decide_back-returns t c =
    let full = filled true false (rows c.args.self.now.table.now) c.args.self.now.small in
    elim c.if-heavy.branch [
      | decide_back-then-heavy w ↦ near_decided _ _ _ _ _ _ _ _ _ _ _ c.row_count-n.ensures full c.back.ensures c.settle.ensures (rw (sym w.near-is) at w.cover_active.ensures)
      | decide_back-else-heavy w ↦ all_decided _ _ _ _ _ _ _ _ _ _ _ c.row_count-n.ensures full c.back.ensures c.settle.ensures (λ y l. ap (λ (n : List Bool). get_or n y false) w.near-is ∙ filled _ false _ c.args.self.now.small y l ∙ ap not w.if-heavy.false)
    ]

-- `decide_each`. The loop's invariant: the active states of the rows passed are decided.

pub decide_each-loop-node-init : goal.decide_each-loop-node-init
decide_each-loop-node-init t c = (c.row_count-n.ensures, refl, sieved_start _ _ _ _)

pub decide_each-loop-node-preserved : goal.decide_each-loop-node-preserved
decide_each-loop-node-preserved t c =
    let inv = c.loop-node.invariant in
    elim c.if-states-node.branch [
      | decide_each-then-states-node w ↦ (inv.0, rw w.states-is (simp length-set inv.1), rw w.states-is (sieved_write _ _ _ _ _ _ _ inv.2 w.if-states-node.true (w.choose.ensures ∙ rw (w.truth_of.ensures, w.expression-v.ensures, c.float_of-unasked.ensures.0)) (omega arith)))
      | decide_each-else-states-node w ↦ (inv.0, rw w.states-is inv.1, rw w.states-is (sieved_skip _ _ _ _ _ _ inv.2 w.if-states-node.false))
    ]

pub decide_each-returns : goal.decide_each-returns
decide_each-returns t c = rw c.loop-node.invariant.0 at (sieved_done _ _ _ _ _ _ c.loop-node.invariant.2 (omega arith))

-- `decide_not`: what its operand leaves is exchanged.

pub decide_not-returns : goal.decide_not-returns
decide_not-returns t c =
    not_decided _ _ _ _ _ (λ e. omega (arith, c.requires)) _ c.first_link-first.ensures.0 _ _ _ _ c.row_count.ensures c.requires.5 c.decide.ensures _ c.requires.4 c.exchange.ensures

-- `decide_pair`: the second operand is decided a level higher, for the rows that the first leaves open.

pub decide_pair-decide-requires-2 : goal.decide_pair-decide-requires-2
decide_pair-decide-requires-2 t c =
    (search rules, (search rules, search rules, search rules, raised_low _ _ _ _ _ (λ e. omega (arith, c.requires)) _ c.first_link-first.ensures.0 _ _ _ _ c.row_count-n.ensures c.requires.5 c.decide.ensures c.args.any c.requires.4 _ c.raise.ensures))

pub decide_pair-returns : goal.decide_pair-returns
decide_pair-returns t c =
    pair_decided _ _ _ _ _ (λ e. omega (arith, c.requires)) _ c.first_link-first.ensures.0 _ _ _ _ c.row_count-n.ensures c.requires.5 c.decide.ensures c.args.any c.requires.4 _ c.raise.ensures _ c.second_link-second.ensures.0 _ _ c.decide-2.ensures c.lower.ensures

-- `decide_path`: an absolute path selects the same from every node, and a relative one whose steps do not count is led back to.

pub decide_path-returns-in-Absolute : goal.decide_path-returns-in-Absolute
decide_path-returns-in-Absolute t c =
    absolute_decided _ _ _ _ _ (λ e. omega (arith, c.requires)) c.requires.4 _ c.first_link-held.ensures.0 c.if-held-eq0.false _ c.op_at.ensures _ _ _ c.in-Absolute.is _ _ _ c.tally-k.ensures.0 refl c.row_count.ensures c.settle_all.ensures

pub decide_path-returns : goal.decide_path-returns
decide_path-returns t c =
    relative_decided _ _ _ _ _ (λ e. omega (arith, c.requires)) c.requires.4 _ c.first_link-held.ensures.0 c.if-held-eq0.false _ c.op_at.ensures _ _ _ c.in_default.not-Absolute _ c.first_link-steps.ensures.0 _ c.counts.ensures c.if-counts.false c.decide_back.ensures

-- `expression`: one answer for each way that an op takes its operands, all by the law that a value depends only on what its op takes.

pub expression-returns-then-link-eq0 : goal.expression-returns-then-link-eq0
expression-returns-then-link-eq0 t c = search value_none

pub expression-returns-then-is_over_path : goal.expression-returns-then-is_over_path
expression-returns-then-is_over_path t c = search value_over_path

pub expression-returns-then-is_decided : goal.expression-returns-then-is_decided
expression-returns-then-is_decided t c = search value_decided

pub expression-returns-then-takes_second : goal.expression-returns-then-takes_second
expression-returns-then-takes_second t c = search value_two

pub expression-returns-then-takes_first : goal.expression-returns-then-takes_first
expression-returns-then-takes_first t c = search value_one

pub expression-returns : goal.expression-returns
expression-returns t c = search value_leaf

-- `keep`: the predicates before this one have filtered the list; the loop's invariant is that the first m nodes are what this one keeps of
-- the first i, and what follows is still to come.

pub keep-returns-then-link-eq0 : goal.keep-returns-then-link-eq0
keep-returns-then-link-eq0 t c = (take_all _ _ (omega arith) ∙ filtered_none _ _ _ _ _ _ c.if-link-eq0.true, omega arith)

pub keep-loop-i-init : goal.keep-loop-i-init
keep-loop-i-init t c = (omega arith, refl, kept_start _ _ _)

pub keep-loop-i-preserved : goal.keep-loop-i-preserved
keep-loop-i-preserved t c =
    let more : c.loop-i.i < c.keep-k.result = omega arith in
    let fit : c.keep-k.result ≤ length c.loop-i.nodes = omega (arith, c.loop-i.invariant, c.keep-k.ensures.1, c.requires) in
    elim c.if-keeps.branch [
      | keep-then-keeps w ↦ (
        omega (arith, c.loop-i.invariant),
        ap length w.nodes-is ∙ simp length-set c.loop-i.invariant.1,
        rw (w.nodes-is, w.m-is) (kept_more _ _ _ _ _ _ c.loop-i.invariant.2 c.loop-i.invariant.0 more fit
            (kept_by_lem _ _ _ _ _ _ _ _ _ _ _ _ _ _ refl c.float_of-position.ensures.0 c.float_of-size.ensures.0 c.expression-v.ensures c.keeps.ensures w.if-keeps.true)),
      )
      | keep-else-keeps w ↦ (
        omega (arith, c.loop-i.invariant),
        ap length w.nodes-is ∙ c.loop-i.invariant.1,
        rw (w.nodes-is, w.m-is) (kept_skip _ _ _ _ _ _ c.loop-i.invariant.2 more fit
            (kept_by_lem _ _ _ _ _ _ _ _ _ _ _ _ _ _ refl c.float_of-position.ensures.0 c.float_of-size.ensures.0 c.expression-v.ensures c.keeps.ensures w.if-keeps.false)),
      )
    ]

pub keep-returns : goal.keep-returns
keep-returns t c = (
  filtered_row _ _ _ _ _ c.if-link-eq0.false _ _ _ _ _ _ c.first_link-before.ensures.0 c.second_link-test.ensures.0 c.keep-k.ensures.0
      (length-take-le _ _ (omega (arith, c.keep-k.auto, c.keep-k.ensures.1, c.requires)))
      (kept_done _ _ _ _ _ _ c.loop-i.invariant.2 (omega arith)),
  omega arith,
)

-- `narrow`: the marked rows are active, the chain thins them, and what is active still stays marked.

pub narrow-returns-then-link-eq0 : goal.narrow-returns-then-link-eq0
narrow-returns-then-link-eq0 t c = narrowed_none _ _ _ _ _ _ c.if-link-eq0.true

pub narrow-thin-requires : goal.narrow-thin-requires
narrow-thin-requires t c =
    (search rules, (search rules, search rules, settled_low c.args.self.now.table.now _ c.row_count-n.ensures c.args.marks.now _ _ (filled 2 0 _ (omega (arith, c.row_count-n.ensures, c.args.self.now.small))) c.settle.ensures))

pub narrow-returns : goal.narrow-returns
narrow-returns t c =
    narrowed_by _ _ _ _ _ _ _ _ _ _ c.row_count-n.ensures (filled 2 0 _ (omega (arith, c.row_count-n.ensures, c.args.self.now.small))) c.settle.ensures c.thin.ensures.0 c.retain.ensures

-- `select`: a path walks its steps from its start; link 0 selects nothing.

pub select-returns-then-link-eq0 : goal.select-returns-then-link-eq0
select-returns-then-link-eq0 t c = search select_none

pub select-returns : goal.select-returns
select-returns t c = search select_row

-- `spread`: the candidates are listed, filtered and marked, each by its function's contract.

pub spread-returns : goal.spread-returns
spread-returns t c =
    let fit : c.keep-m.result ≤ length c.keep-m.new.nodes = omega (arith, c.keep-m.ensures.1, c.keep-m.auto) in
    rw (← c.list_candidates-k.ensures.0, ← c.keep-m.ensures.0, ← take-append-le _ _ (drop c.list_candidates-k.result c.list_candidates-k.new.list) fit) c.add_marks.ensures

-- `step`: the loop's invariant is that next has what the marked nodes below x reach, and lengths are as they were.

pub step-loop-x-init : goal.step-loop-x-init
step-loop-x-init t c =
    (c.row_count-n.ensures, c.requires.1, search rules, search rules, reached_start _ _ _ (no_marks most_rows))

pub step-loop-x-preserved : goal.step-loop-x-preserved
step-loop-x-preserved t c =
    let inv = c.loop-x.invariant in
    elim c.if-marks-x.branch [
      | step-then-marks-x w ↦ (
        inv.0,
        inv.1,
        ap length w.next-is ∙ w.spread.auto.next ∙ inv.2,
        ap length w.list-is ∙ w.spread.auto.list ∙ inv.3,
        rw w.next-is (reached_more _ _ _ _ _ w.if-marks-x.true inv.4 w.spread.auto.next w.spread.ensures),
      )
      | step-else-marks-x w ↦ (
        inv.0,
        inv.1,
        ap length w.next-is ∙ inv.2,
        ap length w.list-is ∙ inv.3,
        rw w.next-is (reached_skip _ _ _ _ w.if-marks-x.false inv.4),
      )
    ]

pub step-returns : goal.step-returns
step-returns t c =
    c.copy_marks.ensures ∙ reached_done _ _ _ _ _ c.loop-x.invariant.4 (omega (arith, c.loop-x.invariant)) (omega (arith, c.loop-x.invariant, c.args.self.now.small))

-- `step_back`: the near nodes, the test, the predicates, and the inverse axis.

pub step_back-returns : goal.step_back-returns
step_back-returns t c =
    led_by _ _ _ _ _ _ _ _ _ _ _ _ c.meet.ensures c.sift.ensures c.narrow.ensures c.reach_back.ensures

-- `stride`: the axis, the test, the predicates, all at once.

pub stride-returns : goal.stride-returns
stride-returns t c =
    strode _ _ _ _ _ _ _ _ _ _ _ c.requires.2 c.reach.ensures c.sift.ensures c.narrow.ensures

-- `tally`: the marks that `select` leaves are counted.

pub tally-select-requires : goal.tally-select-requires
tally-select-requires t c =
    (search rules, (search rules, search rules, no_marks most_rows))

-- `thin`: the predicates before it thin the active rows, what they left out is put out, and its own truth is decided for the rest.

pub thin-returns-then-link-eq0 : goal.thin-returns-then-link-eq0
thin-returns-then-link-eq0 t c = (thinned_none _ _ _ _ _ _ c.if-link-eq0.true, search rules)

pub thin-decide-requires : goal.thin-decide-requires
thin-decide-requires t c =
    (search rules, (search rules, search rules, search rules, put_low c.args.self.now.table.now _ c.row_count.ensures _ _ c.thin.ensures.1 c.put_out.ensures))

pub thin-returns : goal.thin-returns
thin-returns t c =
    (thinned_row _ _ _ _ _ c.if-link-eq0.false _ _ c.first_link-before.ensures.0 c.second_link-held.ensures.0 _ _ _ _ _ c.row_count.ensures c.thin.ensures.0 c.put_out.ensures c.decide.ensures, sieved_bounded _ _ _ _ _ c.decide.ensures (put_low c.args.self.now.table.now _ c.row_count.ensures _ _ c.thin.ensures.1 c.put_out.ensures))

-- `walk`: what the steps before reached is the set from which this step goes on, node by node or all at once.

pub walk-returns-then-link-eq0 : goal.walk-returns-then-link-eq0
walk-returns-then-link-eq0 t c = search (walk_none, rules)

pub walk-returns-then-counting : goal.walk-returns-then-counting
walk-returns-then-counting t c =
    let step = c.of_row-step.ensures in
    walk_row _ _ _ _ _ c.if-link-eq0.false _ _ _ _ _ _ _ c.first_link-before.ensures.0 step.predicates.0 step.axis step.test c.walk.ensures c.step.ensures

pub walk-returns : goal.walk-returns
walk-returns t c =
    let step = c.of_row-step.ensures in
    walk_row _ _ _ _ _ c.if-link-eq0.false _ _ _ _ _ _ _ c.first_link-before.ensures.0 step.predicates.0 step.axis step.test c.walk.ensures c.stride.ensures
