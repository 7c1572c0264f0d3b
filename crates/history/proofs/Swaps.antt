-- Why a swap loses and why it wins, on a walk from a good state: what its worker has in mind is the mark word as it stood at its moment.
-- Assumes nothing.
use Prim.Native.Nat.{ℕ, ◌+◌, ◌^◌, ◌≤◌, ◌<◌}
use mathlib.Core.List.{List, [], ◌∷◌, ◌++◌}
use mathlib.Core.Path.{◌≡◌, refl, sym, ap, subst, ◌∙◌}
use mathlib.Core.Logic.{◌⊎◌, inl, inr}
use native.Mathlib.Decide.{ℕ_discrete}
use native.Mathlib.Nat.{mod-lt}
use native.Mathlib.Omega.{arith}
use Rattle.turn.specs.declared.Worker.{Worker}
use Rattle.turn.proofs.Effects.{Swapper, expects}
use Rattle.engine.specs.Board.{bucket_of}
use Rattle.history.specs.Trace.{Turn, Entry, acted, retired, bucket_in, Wins, Loses, Swaps, Commits, Closes, IsTurn, Changes, In, Cut, Some, None, total}
use Rattle.history.specs.Counts.{is_change, is_commit, is_close}
use Rattle.history.specs.Moment.{AtMoment, Own, Sees, HasMoment, ChangedByAnother, CommittedOrClosedByAnother}
use Rattle.history.specs.Reports.{LeftWord, MadeLose}
use Rattle.history.specs.Cells.{home}
use Rattle.history.proofs.View.{View, worker, Aware, swapper_aware, Acts, quiet_marks, Walk, stays, starts, acts, new_record}
use Rattle.history.proofs.Counts.{one_yes, one_or_none, change_of, commit_of, close_of, bump_of}
use Rattle.history.proofs.Counts.{in_bucket, in_bucket_lem, in_bucket_le, in_bucket_commits, onto, total_append, total_onto}
use Rattle.history.proofs.Versions.{Tells}
use Rattle.history.proofs.Words.{act_changes, none_differs}
use Rattle.history.proofs.Minds.{Minds, renews, keeps, forgets, act_expects}
use Rattle.history.proofs.Good.{Good, act_good, walk_good}
use Rattle.history.proofs.Cuts.{some_here, some_later, last_or_none, some_as, some_counts, CutAt, cut_at}
use Rattle.history.proofs.Remembers.{act_minds, sees_not, Still, back}

-- ---- a bucket that no one changes

-- an entry in bucket b that changed its mark word
abbrev ChangesIn : ℕ → Entry → Type 0
ChangesIn b e = In b e × Changes e

module _ {n : ℕ} (b : ℕ) where
  act_quiet : {s : View} {e : Entry} {v : Worker} {t : View} → Acts n s e v t → (ChangesIn b e → ⊥) → t.marks b ≡ s.marks b
  act_quiet {s} {e} {v} {t} act none = by (ℕ_discrete b (bucket_in e)) (one_or_none (is_change e))
    where
      by : Dec (b ≡ bucket_in e) → Changes e ⊎ (change_of e ≡ 0) → t.marks b ≡ s.marks b
      by (no other) change = act.there b other
      by (yes is) (inl change) = absurd (none (sym is, change))
      by (yes is) (inr quiet) = quiet_marks act quiet b

  -- its mark word stays
  walk_quiet : {s u : View} {es : List Entry} {k : ℕ} → Walk n s es k u → None (ChangesIn b) es → u.marks b ≡ s.marks b
  walk_quiet stays none = refl
  walk_quiet (starts start rest) none = walk_quiet rest none ∙ start.marks b
  walk_quiet (acts act rest) none =
      walk_quiet rest (λ some. none (some_later _ _ _ some)) ∙ act_quiet act (λ change. none (some_here _ _ _ change))

changes_test : (b : ℕ) (e : Entry) → ChangesIn b e ⊎ (ChangesIn b e → ⊥)
changes_test b e = by (ℕ_discrete (bucket_in e) b) (one_or_none (is_change e))
  where
    by : Dec (bucket_in e ≡ b) → Changes e ⊎ (change_of e ≡ 0) → ChangesIn b e ⊎ (ChangesIn b e → ⊥)
    by (no other) change = inr (λ is. other is.0)
    by (yes is) (inl change) = inl (is, change)
    by (yes is) (inr quiet) = inr (λ change. omega (arith, one_yes (is_change e) change.1))

-- ---- a swap

module _ {n : ℕ} {s : View} {y : Turn} {v : Worker} {t : View} (act : Acts n s (acted y) v t) where
  -- the worker of a swap is in the midst of a round
  swapper : Swaps y → Swapper (worker s y.worker)
  swapper (inl won) = (act.tells.went.won won).0
  swapper (inr lost) = (act.tells.went.lost lost).0

  -- and so has a word in mind
  pub swap_aware : Swaps y → Aware (worker s y.worker)
  swap_aware swap = swapper_aware (worker s y.worker) (swapper swap)

-- the moment of a turn, as an entry that sees
moment_some : {es : List Entry} {y : Turn} → HasMoment es y → Some (λ e. Own y e × Sees e) es
moment_some has =
    record { older = has.older; entry = acted has.moment; newer = has.newer; cut = has.cut; holds = (has.is.own, has.is.sees) }

-- what an entry left in its bucket, if it is told
left_word : {n : ℕ} {s : View} (e : Entry) {v : Worker} {t : View} {m : ℕ} → Acts n s e v t → t.marks (bucket_in e) ≡ m → LeftWord m e
left_word (acted e) act is = act.tells.after ∙ is
left_word (retired r) act is = tt

-- ---- a swap and its moment

module _ (workers n : ℕ) (first : ℕ → ℕ) {s u : View} {es : List Entry} {k : ℕ} (walk : Walk n s es k u) (good : Good workers n first s [] 0) where
  module _ (at : AtMoment es) (swap : Swaps at.turn) where
    abbrev x : Turn
    x = at.moment

    abbrev between : List Entry
    between = at.between

    abbrev y : Turn
    y = at.turn

    abbrev at_x : CutAt n s at.before (acted x) (between ++ (acted y ∷ at.after)) u
    at_x = cut_at n (acted x) (between ++ (acted y ∷ at.after)) at.before walk at.cut

    abbrev at_y : CutAt n at_x.there between (acted y) at.after u
    at_y = cut_at n (acted y) at.after between at_x.rest refl

    abbrev then : View
    then = at_x.there

    abbrev now : View
    now = at_y.here

    abbrev w : Worker
    w = worker now y.worker

    -- the bucket of the swap
    abbrev b : ℕ
    b = y.report.bucket

    abbrev past : List Entry
    past = acted x ∷ onto at.before []

    good_then : Good workers n first then past (at_x.many + 0)
    good_then = act_good workers n first _ _ _ _ at_x.act _ _ (walk_good workers n first at_x.first [] 0 good)

    good_now : Good workers n first now (onto between past) (at_y.many + (at_x.many + 0))
    good_now = walk_good workers n first at_y.first past _ good_then

    -- between its moment and its swap a worker keeps the word that it has in mind
    still : Still n then between now y
    still = by (back n y at_y.first (swap_aware at_y.act swap) at_y.act.bucket)
      where
        by : HasMoment between y ⊎ Still n then between now y → Still n then between now y
        by (inl has) = absurd (at.is.latest (moment_some has))
        by (inr still) = still

    recorded : worker then y.worker ≡ at_x.new
    recorded =
        ap (worker then) (sym at.is.own) ∙ new_record at_x.here then x.worker at_x.new at_x.act.records at_x.act.within

    -- and that is the mark word as it stood at the moment, which is in the same bucket
    saw : In b (acted x) × (w.word ≡ then.marks b)
    saw = by (act_minds at_x.act)
      where
        by :
            Minds (at_x.here.marks x.report.bucket) (worker at_x.here x.worker) at_x.act.effect at_x.new
            → In b (acted x) × (w.word ≡ then.marks b)
        by (renews how key word) =
            let kept : home n at_x.new ≡ b = ap (home n) (sym recorded) ∙ sym still.home_same ∙ sym at_y.act.bucket in
            let homes : In b (acted x) = at_x.act.bucket ∙ ap (λ (l : ℕ). bucket_of l n) (sym key) ∙ kept in
            (homes, still.word ∙ ap (λ (v : Worker). v.word) recorded ∙ word ∙ sym at_x.act.here ∙ ap then.marks homes)
        by (keeps quiet call word from to) = absurd (sees_not (acted x) at_x.act (rw quiet) from at.is.sees)
        by (forgets unaware) = absurd (unaware (subst Aware recorded still.aware))

    -- so the swap expects it
    expected : expects w ≡ then.marks b
    expected =
        act_expects n now (acted y) at_y.new at_y.there good_now.kept at_y.act (swapper at_y.act swap) ∙ saw.1

    -- the moment of the swap reports as after what the swap expects
    moment_left : x.report.after ≡ expects w
    moment_left = at_x.act.tells.after ∙ ap then.marks saw.0 ∙ sym expected

    -- a won swap finds what its moment left, and a lost one does not
    pub won_found : Wins y → y.report.before ≡ x.report.after
    won_found won = at_y.act.tells.before ∙ sym (at_y.act.tells.went.won won).1 ∙ sym moment_left

    pub lost_found : Loses y → y.report.before ≡ x.report.after → ⊥
    lost_found lost same = (at_y.act.tells.went.lost lost).1 (sym moment_left ∙ sym same ∙ at_y.act.tells.before)

    -- Between the moment of a lost swap and the swap the mark word was changed, since it is not what the swap expects; the last change is
    -- no turn of its worker, whose moment is the last of those, and left the word that the swap finds.
    pub lost_by : Loses y → Cut (MadeLose y) between
    lost_by lost = by (last_or_none (ChangesIn b) (changes_test b) between)
      where
        by : Cut (λ e newer. ChangesIn b e × None (ChangesIn b) newer) between ⊎ None (ChangesIn b) between → Cut (MadeLose y) between
        by (inl last) =
            let e = last.entry in
            let there = last.holds.0 in
            let c = cut_at n e last.newer last.older at_y.first last.cut in
            record {
              older = last.older;
              entry = e;
              newer = last.newer;
              cut = last.cut;
              holds =
                  record {
                    another = ((λ own. at.is.latest (some_as _ _ _ last (own, inr there.1)), there.0), there.1);
                    differs = act_changes e c.act (walk_good workers n first c.first past _ good_then).kept there.1;
                    left = left_word e c.act (ap c.there.marks there.0 ∙ sym (walk_quiet b c.rest last.holds.1) ∙ sym at_y.act.tells.before);
                    latest = none_differs b c.rest last.holds.1;
                  };
            }
        by (inr none) = absurd ((at_y.act.tells.went.lost lost).1 (expected ∙ sym (walk_quiet b at_y.first none)))

    -- between the moment of a lost swap and the swap another worker changed the mark word
    pub lost_since : Loses y → Some (ChangedByAnother y) between
    lost_since lost = let c = lost_by lost in some_as _ _ _ c c.holds.another

    -- what is counted between them in the bucket
    abbrev count : (Entry → ℕ) → ℕ
    count f = total (in_bucket b f) between

    -- what is counted between them is no more than is counted in all
    fewer : total bump_of between ≤ total bump_of es
    unfolding total
    fewer = omega (
      arith,
      ap (total bump_of) at.cut,
      total_append bump_of at.before (acted x ∷ (between ++ (acted y ∷ at.after))),
      total_append bump_of between (acted y ∷ at.after),
    )

    -- A swap that wins finds the mark word as it stood at the moment. The version in it says that what moved it since, commits and retirings,
    -- is a multiple of 2^32; where there are fewer, there is none. With no commit, as many valid slots as then say no close either.
    none_between : 0 < n → total bump_of es < 2 ^ 32 → Wins y → (count commit_of ≡ 0) × (count close_of ≡ 0)
    none_between some few won =
        let under : b < n = rw at_y.act.bucket (mod-lt w.key some) in
        let same : then.marks b ≡ now.marks b = sym expected ∙ (at_y.act.tells.went.won won).1 in
        let told = good_then.tells b under in
        let tells = subst (Tells (first b) b (onto between past)) (sym same) (good_now.tells b under) in
        let bumps = total_onto (in_bucket b bump_of) between past in
        let commits = total_onto (in_bucket b commit_of) between past in
        let closes = total_onto (in_bucket b close_of) between past in
        let unmoved : count bump_of ≡ 0 = omega (arith, told.bumps, tells.bumps, bumps, in_bucket_le b bump_of between, fewer, few) in
        let none : count commit_of ≡ 0 = omega (arith, unmoved, in_bucket_commits b between) in
        (none, omega (arith, told.valid, tells.valid, commits, closes, none))

    counts : (f : Entry → ℕ) → (some : Some (CommittedOrClosedByAnother y) between) → f some.entry ≡ 1 → count f ≡ 0 → ⊥
    counts f some one none =
        omega (
          arith,
          some_counts (in_bucket b f) (CommittedOrClosedByAnother y) between some,
          in_bucket_lem b f some.entry some.holds.0.1,
        )

    -- between the moment of a won swap and the swap no other worker made a commit or a close in the bucket
    pub won_since : 0 < n → total bump_of es < 2 ^ 32 → Wins y → None (CommittedOrClosedByAnother y) between
    won_since positive few won some = by some.holds.1
      where
        by : IsTurn Commits some.entry ⊎ IsTurn Closes some.entry → ⊥
        by (inl commits) = counts commit_of some (one_yes (is_commit some.entry) commits) (none_between positive few won).0
        by (inr closes) = counts close_of some (one_yes (is_close some.entry) closes) (none_between positive few won).1
