use Rattle.std.proofs.Common.{◌≡◌, ◌+◌, ◌-◌, ◌≤◌, false, refl, sym, ◌∙◌, arith}
use Rattle.turn.specs.Worker.{is_idle}
use Rattle.turn.specs.Turn.{tried_as}
use Rattle.walks.specs.Walk.{walks, three_idle}
use Rattle.walks.proofs.Bounds.{room_left, begun_fit, sum_fit}
use Rattle.walks.proofs.Walking.{walk_ends, walk_cut, walk_goes, idle_slept, begun_busy, kind_busy, kind_some}
use Rattle.walks.proofs.walk.+begun_by.Goals as goal
use Rattle.walks.proofs.walk.+begun_by.Goals.{begun_by-else-own-eq-IDLE-via-then-own-eq-IDLE+else-is_idle, begun_by-else-own-eq-IDLE-via-else-own-eq-IDLE}
use Rattle.walks.proofs.walk.+begun_by.Goals.{begun_by-else-left-eq-IDLE-via-then-left-eq-IDLE+else-are_idle, begun_by-else-left-eq-IDLE-via-else-left-eq-IDLE}

pub begun_by-returns-then-are_idle : goal.begun_by-returns-then-are_idle
begun_by-returns-then-are_idle t c =
    let a = c.args in
    let busy : is_idle a.own ≡ false =
    elim c.else-own-eq-IDLE.branch [
      | begun_by-else-own-eq-IDLE-via-then-own-eq-IDLE+else-is_idle w ↦ sym w.is_idle.ensures ∙ w.if-is_idle.false
      | begun_by-else-own-eq-IDLE-via-else-own-eq-IDLE w ↦ kind_busy _ w.if-own-eq-IDLE.false
    ] in
    begun_busy (walks a.depth) a.words a.own a.next a.last a.lost _ _ _ c.try_turn-answer.ensures c.lost_by.ensures busy
    (rw (← c.left_by-left.ensures)
    (c.one.ensures ∙ sym (walk_ends _ _ _ _ _ _ (idle_slept _ _ _ ∙ (sym c.are_idle.ensures ∙ c.if-are_idle.true)))))

pub begun_by-returns-then-depth-eq0 : goal.begun_by-returns-then-depth-eq0
begun_by-returns-then-depth-eq0 t c =
    let a = c.args in
    let busy : is_idle a.own ≡ false =
    elim c.else-own-eq-IDLE.branch [
      | begun_by-else-own-eq-IDLE-via-then-own-eq-IDLE+else-is_idle w ↦ sym w.is_idle.ensures ∙ w.if-is_idle.false
      | begun_by-else-own-eq-IDLE-via-else-own-eq-IDLE w ↦ kind_busy _ w.if-own-eq-IDLE.false
    ] in
    let some : three_idle c.left_by-left.result a.next a.last ≡ false =
    elim c.else-left-eq-IDLE.branch [
      | begun_by-else-left-eq-IDLE-via-then-left-eq-IDLE+else-are_idle w ↦ sym w.are_idle.ensures ∙ w.if-are_idle.false
      | begun_by-else-left-eq-IDLE-via-else-left-eq-IDLE w ↦ kind_some _ _ _ w.if-left-eq-IDLE.false
    ] in
    begun_busy (walks a.depth) a.words a.own a.next a.last a.lost _ _ _ c.try_turn-answer.ensures c.lost_by.ensures busy
    (rw (← c.left_by-left.ensures)
    (c.one-then-depth-eq0.ensures ∙ sym (walk_cut _ _ _ _ _ _ (idle_slept _ _ _ ∙ some) c.if-depth-eq0.true)))

pub begun_by-going_on-requires : goal.begun_by-going_on-requires
begun_by-going_on-requires t c =
    let a = c.args in
    let room = room_left a.depth a.lost c.lost_by.result a.depth (tried_as a.own c.try_turn-answer.result).said.report.action
    refl c.requires c.if-depth-eq0.false c.lost_by.ensures in
    (omega (arith, room.0), omega (arith, room.0, room.1))

pub begun_by-returns : goal.begun_by-returns
begun_by-returns t c =
    let a = c.args in
    let busy : is_idle a.own ≡ false =
    elim c.else-own-eq-IDLE.branch [
      | begun_by-else-own-eq-IDLE-via-then-own-eq-IDLE+else-is_idle w ↦ sym w.is_idle.ensures ∙ w.if-is_idle.false
      | begun_by-else-own-eq-IDLE-via-else-own-eq-IDLE w ↦ kind_busy _ w.if-own-eq-IDLE.false
    ] in
    let some : three_idle c.left_by-left.result a.next a.last ≡ false =
    elim c.else-left-eq-IDLE.branch [
      | begun_by-else-left-eq-IDLE-via-then-left-eq-IDLE+else-are_idle w ↦ sym w.are_idle.ensures ∙ w.if-are_idle.false
      | begun_by-else-left-eq-IDLE-via-else-left-eq-IDLE w ↦ kind_some _ _ _ w.if-left-eq-IDLE.false
    ] in
    begun_busy (walks a.depth) a.words a.own a.next a.last a.lost _ _ _ c.try_turn-answer.ensures c.lost_by.ensures busy
    (rw (← c.left_by-left.ensures) (walk_goes _ _ _ _ _ a.depth _ (idle_slept _ _ _ ∙ some) c.if-depth-eq0.false c.going_on.ensures))

pub going_on-sum-requires : goal.going_on-sum-requires
going_on-sum-requires t c =
    let a = c.args in
    let fit = begun_fit (a.depth - 1) a.after a.so_far (omega (arith, c.requires)) in
    (fit _ _ _ _ c.begun_by-first.ensures, fit _ _ _ _ c.begun_by-second.ensures)

pub going_on-sum-requires-2 : goal.going_on-sum-requires-2
going_on-sum-requires-2 t c =
    let a = c.args in
    let room : a.so_far + (a.depth - 1) ≤ 23 = omega (arith, c.requires) in (
      sum_fit (a.depth - 1) a.after a.so_far room _ _ _ _ _ _ _ _ _ c.begun_by-first.ensures c.begun_by-second.ensures c.sum.ensures,
      begun_fit (a.depth - 1) a.after a.so_far room _ _ _ _ c.begun_by-third.ensures,
    )
