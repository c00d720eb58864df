-- `compose::read::read_token` meets its contract, by the class of the token.
-- Assumes nothing.
use native.Mathlib.Omega.{arith}
use mathlib.Core.Path.{sym, ◌∙◌}
use borrow.Author.Rules.{rules}
use Rattle.compose.proofs.Drafts.{read_as, dealt_read, as_number, step_kind, slash_kind}
use Rattle.compose.proofs.read.read_token.Goals as goal

pub desk_token-bench-requires : goal.desk_token-bench-requires
desk_token-bench-requires c = (
  c.requires.1,
  c.requires.0,
  sym
      c.is_desk.ensures ∙ c.if-is_desk.true,
  record {
    light = omega
        (arith, c.requires.2.light);
    rows_room = search
        rules;
  },
  c.requires.5,
)

pub returns-then-is_desk : goal.returns-then-is_desk
returns-then-is_desk c =
    let g = c.args in
    (c.next_mode-mode.ensures.0, λ s i n v. dealt_read g.state g.rows.now g.frames.now.ops g.frames.now.opens g.values.now s i g.kind _ c.next_mode-mode.ensures.1 _ n c.desk_token-bench.ensures)

pub returns-then-kind-eq-NUMBER : goal.returns-then-kind-eq-NUMBER
returns-then-kind-eq-NUMBER c =
    let g = c.args in
    let told = c.number_token.ensures in
    let known = c.next_mode-mode.ensures in (
      omega (arith, told.0, known.0),
      λ s i n v.
          read_as _ 4 (told.1 g.frames.now.ops g.frames.now.opens)
          (as_number g.state g.rows.now g.frames.now.ops g.frames.now.opens g.values.now s i g.kind
          c.next_mode-mode.result known.1 g.value
          (v c.if-kind-eq-NUMBER.true)
          c.if-kind-eq-NUMBER.true) (omega arith),
    )

pub slash_token-requires : goal.slash_token-requires
slash_token-requires c = (
  c.requires.1,
  c.next_mode-mode.ensures.1,
  c.if-kind-ge-SLASH.true,
  slash_kind
      c.args.kind
      (sym c.is_desk.ensures ∙ c.if-is_desk.false),
  record {
    light = omega
        (arith, c.requires.2.light);
    rows_room = search rules;
  },
)

pub returns-then-kind-ge-SLASH : goal.returns-then-kind-ge-SLASH
returns-then-kind-ge-SLASH c =
    let g = c.args in
    let told = c.slash_token.ensures in
    let known = c.next_mode-mode.ensures in
    (omega (arith, told.0, known.0), λ s i n v. told.1 g.values.now s i)

pub step_token-requires : goal.step_token-requires
step_token-requires c = (
  c.requires.1,
  c.next_mode-mode.ensures.1,
  step_kind
      c.args.kind
      (sym c.is_desk.ensures ∙ c.if-is_desk.false)
      c.if-kind-eq-NUMBER.false c.if-kind-ge-SLASH.false,
  record {
    light = omega
        (arith, c.requires.2.light);
    rows_room = search rules;
  },
)

pub returns : goal.returns
returns c =
    let g = c.args in
    let told = c.step_token.ensures in
    let known = c.next_mode-mode.ensures in
    (omega (arith, told.0, known.0), λ s i n v. told.1 g.values.now s i n)
