-- Starts and what became of them belong together one to one. The call of a start is over with the first entry since by which a call of its
-- worker is over, a turn that ended it or a retiring: so no start has two of these, none whose worker is at the call still has one, and no
-- two starts have the same. Assumes nothing.
use Prim.Native.Nat.{ℕ, ◌+◌, ◌≤◌}
use mathlib.Core.List.{List, [], ◌∷◌, ◌++◌, append_assoc, append-nil, head-eq_of_cons-eq, tail-eq_of_cons-eq}
use mathlib.Core.Logic.{◌⊎◌, inl, inr}
use mathlib.Core.Path.{◌≡◌, refl, sym, ap, subst, ◌∙◌}
use native.Mathlib.Omega.{arith}
use lib.ListN.{length, drop, length-append}
use lib.Seq.{drop_at}
use Rattle.history.specs.Trace.{Entry, acted, retired, who, By, IsTurn, OwnEnd, None}
use Rattle.history.specs.History.{State, record_of}
use Rattle.history.specs.Moves.{Step, calls, state_through, trace_through}
use Rattle.history.proofs.Ready.{Ready}
use Rattle.history.proofs.Cuts.{some_here, some_later, some_as, none_append}
use Rattle.history.proofs.Numbered.{answered_ends}
use Rattle.clerk.specs.Calls.{EndedCall}
use Rattle.clerk.specs.Clerk.{Start, BegunBy, StillAt, RetiredFrom}
use Rattle.clerk.proofs.Enumerated.{same_front, one_call_an_end}
use Rattle.clerk.proofs.Accounted.{accepted, starts_accounted}

-- ---- where an entry stands

-- an entry of which P holds is after entries of which it holds of none, if it is not before them
module _ (P : Entry → Type 0) where
  after_none :
      (past free rest before : List Entry) (e : Entry) (later : List Entry)
      → past ++ (free ++ rest) ≡ before ++ (e ∷ later)
      → None P free
      → P e
      → length past ≤ length before
      → length past + length free ≤ length before
  after_none [] [] rest before e later cut none holds long = omega arith
  after_none [] (x ∷ free) rest [] e later cut none holds long = absurd (none (some_here P x free (subst P (sym (head-eq_of_cons-eq cut)) holds)))
  after_none [] (x ∷ free) rest (y ∷ before) e later cut none holds long =
      omega (arith, after_none [] free rest before e later (tail-eq_of_cons-eq cut) (λ some. none (some_later P x free some)) holds (omega arith))
  after_none (x ∷ past) free rest [] e later cut none holds long = absurd (omega (arith, long))
  after_none (x ∷ past) free rest (y ∷ before) e later cut none holds long =
      omega (arith, after_none past free rest before e later (tail-eq_of_cons-eq cut) none holds (omega (arith, long)))

-- two cuts of a trace with as much before them are one
same_cut :
    (past : List Entry) (d : Entry) (rest before : List Entry) (e : Entry) (later : List Entry)
    → past ++ (d ∷ rest) ≡ before ++ (e ∷ later)
    → length past ≡ length before
    → d ∷ rest ≡ e ∷ later
same_cut past d rest before e later cut long =
    sym (drop_at past (d ∷ rest) (length past) refl) ∙ ap (drop (length past)) cut ∙ drop_at before (e ∷ later) (length past) (sym long)

-- two calls or moves of one list: they stand at one place, or one of them among what is before the other
data Compared (x y : Step) (xs ys : List Step) : Type 0 where
  equal : xs ≡ ys → Compared x y xs ys
  sooner : (more : List Step) → ys ≡ xs ++ (x ∷ more) → Compared x y xs ys
  later : (more : List Step) → xs ≡ ys ++ (y ∷ more) → Compared x y xs ys

module _ (x y : Step) where
  compared_more : (c d : Step) → c ≡ d → (xs ys : List Step) → Compared x y xs ys → Compared x y (c ∷ xs) (d ∷ ys)
  compared_more c d is xs ys (equal at) = equal (λ i. is i ∷ at i)
  compared_more c d is xs ys (sooner more at) = sooner more (λ i. sym is i ∷ at i)
  compared_more c d is xs ys (later more at) = later more (λ i. is i ∷ at i)

  compared : (xs ys after-x after-y : List Step) → xs ++ (x ∷ after-x) ≡ ys ++ (y ∷ after-y) → Compared x y xs ys
  compared [] [] after-x after-y cut = equal refl
  compared [] (d ∷ ys) after-x after-y cut = sooner ys (ap (λ (z : Step). z ∷ ys) (sym (head-eq_of_cons-eq cut)))
  compared (c ∷ xs) [] after-x after-y cut = later xs (ap (λ (z : Step). z ∷ xs) (head-eq_of_cons-eq cut))
  compared (c ∷ xs) (d ∷ ys) after-x after-y cut =
      compared_more c d (head-eq_of_cons-eq cut) xs ys (compared xs ys after-x after-y (tail-eq_of_cons-eq cut))

-- ---- where the call of a start is over

module _ (first : State) (steps : List Step) where
  -- it is over with entry e, which is number n of the trace: no entry between the start and this one ends a call of that worker
  record OverAt (start : Start first steps) (n : ℕ) (e : Entry) : Type 0 where
    since : List Entry
    later : List Entry
    turns : trace_through first steps ≡ trace_through first start.earlier ++ (since ++ (e ∷ later))
    number : n ≡ length (trace_through first start.earlier) + length since + 1
    own : OwnEnd start.worker e
    unended : None (OwnEnd start.worker) since

  -- a call that ended is over with its last turn
  ended_over :
      (start : Start first steps) (c : EndedCall) (begun : BegunBy first steps start c)
      → OverAt start c.last (acted begun.is.at.turn)
  ended_over start c begun =
      let is = begun.is in
      let at = is.at in
      let past = trace_through first start.earlier in
      let own : By start.worker (acted at.turn) = sym is.worker ∙ begun.worker in
      let rest = at.between ++ (acted at.turn ∷ at.after) in
      let cut = sym at.cut ∙ begun.turns ∙ sym (append_assoc past begun.waiting begun.rest) in
      let front : at.before ≡ past ++ begun.waiting =
      same_front at.before (past ++ begun.waiting) rest begun.rest cut
      (omega (
        arith,
        is.first,
        begun.first_turn,
        ap length cut,
        length-append at.before rest,
        length-append (past ++ begun.waiting) begun.rest,
      )) in
      record {
        since = begun.waiting ++ at.between;
        later = at.after;
        turns =
            at.cut
            ∙ ap (λ (l : List Entry). l ++ rest) front
            ∙ append_assoc past begun.waiting rest
            ∙ ap (λ (l : List Entry). past ++ l) (sym (append_assoc begun.waiting at.between (acted at.turn ∷ at.after)));
        number =
            omega (
              arith,
              is.last,
              ap length front,
              length-append at.before at.between,
              length-append past begun.waiting,
              length-append begun.waiting at.between,
            );
        own = (own, answered_ends at.turn c.answer is.answer);
        unended =
            none_append (OwnEnd start.worker) begun.waiting at.between (λ some. begun.others (some_as _ _ _ some some.holds.0))
            (rw own at at.unended);
      }

  -- one that its worker was retired from is over with the retiring
  abbrev retired_over :
      (start : Start first steps) (gone : RetiredFrom first steps start)
      → OverAt start (length (trace_through first start.earlier) + length gone.since + 1) (retired gone.retiring)
  retired_over start gone =
      record {
        since = gone.since;
        later = gone.rest;
        turns = gone.turns;
        number = refl;
        own = (gone.worker, λ goes. goes);
        unended = gone.unended;
      }

  module _ {start : Start first steps} {n : ℕ} {e : Entry} (over : OverAt start n e) where
    abbrev until : List Entry
    until = trace_through first start.earlier ++ over.since

    -- the trace, cut at that entry
    over_cut : trace_through first steps ≡ until ++ (e ∷ over.later)
    over_cut = over.turns ∙ sym (append_assoc (trace_through first start.earlier) over.since (e ∷ over.later))

    until_long : n ≡ length until + 1
    until_long = omega (arith, over.number, length-append (trace_through first start.earlier) over.since)

    -- whoever is at the call still has not come to its end
    still_on : StillAt first steps start → ⊥
    still_on still =
        let past = trace_through first start.earlier in
        omega (
          arith,
          ap length still.turns,
          ap length over_cut,
          length-append past still.since,
          length-append past over.since,
          length-append until (e ∷ over.later),
          after_none (OwnEnd start.worker) past still.since [] until e over.later
              (ap (λ (l : List Entry). past ++ l) (append-nil still.since) ∙ sym still.turns ∙ over_cut) still.unended over.own
              (omega (arith, length-append past over.since)),
        )

  -- of two ends since one start none is the later
  not_later : (start : Start first steps) (n m : ℕ) (d e : Entry) → OverAt start n d → OverAt start m e → n ≤ m
  not_later start n m d e one two =
      let past = trace_through first start.earlier in
      omega (
        arith,
        one.number,
        until_long two,
        after_none (OwnEnd start.worker) past one.since (d ∷ one.later) (until two) e two.later (sym one.turns ∙ over_cut two)
            one.unended two.own (omega (arith, length-append past two.since)),
      )

  -- so there is one
  one_end : (start : Start first steps) (n m : ℕ) (d e : Entry) → OverAt start n d → OverAt start m e → n ≡ m
  one_end start n m d e one two = omega (arith, not_later start n m d e one two, not_later start m n e d two one)

  -- two ends with one number are one
  same_end :
      (start other : Start first steps) (n m : ℕ) (d e : Entry) (one : OverAt start n d) (two : OverAt other m e)
      → n ≡ m
      → d ∷ one.later ≡ e ∷ two.later
  same_end start other n m d e one two same =
      same_cut (until one) d one.later (until two) e two.later (sym (over_cut one) ∙ over_cut two)
      (omega (arith, until_long one, until_long two))

-- ---- two starts

module _ {first : State} (ready : Ready first) (steps : List Step) where
  -- a start, among fewer calls and moves
  abbrev among : (start : Start first steps) (fewer more : List Step) → fewer ≡ start.earlier ++ (calls start.call ∷ more) → Start first fewer
  among start fewer more cut =
      record {
        earlier = start.earlier;
        call = start.call;
        later = more;
        cut = cut;
        worker = start.worker;
        asked = start.asked;
        is = start.is;
        accepted = start.accepted;
      }

  module _
      (start other : Start first steps) (n m : ℕ) (d e : Entry)
      (one : OverAt first steps start n d) (two : OverAt first steps other m e) (same : n ≡ m)
      (more : List Step) (cut : other.earlier ≡ start.earlier ++ (calls start.call ∷ more)) where
    abbrev sooner_start : Start first other.earlier
    sooner_start = among start other.earlier more cut

    same_worker : start.worker ≡ other.worker
    same_worker = sym one.own.0 ∙ ap who (head-eq_of_cons-eq (same_end first steps start other n m d e one two same)) ∙ two.own.0

    -- the first call is not over before the second start: its end would be another one, and sooner
    not_over : (k : ℕ) (x : Entry) → OverAt first other.earlier sooner_start k x → ⊥
    not_over k x over =
        let past = trace_through first start.earlier in
        let rest = two.since ++ (e ∷ two.later) in
        let early = until first other.earlier over in
        omega (
          arith,
          one.number,
          two.number,
          ap length (over_cut first other.earlier over),
          length-append early (x ∷ over.later),
          after_none (OwnEnd start.worker) past one.since (d ∷ one.later) early x (over.later ++ rest)
              (sym one.turns
              ∙ two.turns
              ∙ ap (λ (l : List Entry). l ++ rest) (over_cut first other.earlier over)
              ∙ append_assoc early (x ∷ over.later) rest)
              one.unended over.own (omega (arith, length-append past over.since)),
        )

    -- a worker's next start finds the call that it was at over
    not_both : ⊥
    not_both = by (starts_accounted ready other.earlier sooner_start)
      where
        by :
            ((c : EndedCall) × BegunBy first other.earlier sooner_start c)
            ⊎ (StillAt first other.earlier sooner_start ⊎ RetiredFrom first other.earlier sooner_start)
            → ⊥
        by (inl found) = not_over _ _ (ended_over first other.earlier sooner_start found.0 found.1)
        by (inr (inl still)) = still.busy (ap (record_of (state_through first other.earlier)) same_worker ∙ (accepted ready steps other).was)
        by (inr (inr gone)) = not_over _ _ (retired_over first other.earlier sooner_start gone)

  -- two starts whose calls are over with one entry are one
  one_owner :
      (start other : Start first steps) (n m : ℕ) (d e : Entry)
      → OverAt first steps start n d
      → OverAt first steps other m e
      → n ≡ m
      → start.earlier ≡ other.earlier
  one_owner start other n m d e one two same =
      by (compared (calls start.call) (calls other.call) start.earlier other.earlier start.later other.later
      (sym start.cut ∙ other.cut))
    where
      by : Compared (calls start.call) (calls other.call) start.earlier other.earlier → start.earlier ≡ other.earlier
      by (equal is) = is
      by (sooner more cut) = absurd (not_both start other n m d e one two same more cut)
      by (later more cut) = absurd (not_both other start m n e d two one (sym same) more cut)

-- ---- one to one

module _ {first : State} (ready : Ready first) (steps : List Step) where
  -- §17.3: a call was begun by one start only
  pub one_start :
      (c : EndedCall) (one two : Start first steps) → BegunBy first steps one c → BegunBy first steps two c → one.earlier ≡ two.earlier
  one_start c one two begun-one begun-two =
      one_owner ready steps one two _ _ _ _ (ended_over first steps one c begun-one) (ended_over first steps two c begun-two) refl

  -- §17.3: a start began one call only
  pub one_call : (start : Start first steps) (c d : EndedCall) → BegunBy first steps start c → BegunBy first steps start d → c ≡ d
  one_call start c d one two =
      one_call_an_end (trace_through first steps) c d one.is two.is
      (one_end first steps start _ _ _ _ (ended_over first steps start c one) (ended_over first steps start d two))

  -- §17.3: a start whose worker is at its call still began none that has ended
  pub not_ended : (start : Start first steps) (c : EndedCall) → BegunBy first steps start c → StillAt first steps start → ⊥
  not_ended start c begun still = still_on first steps (ended_over first steps start c begun) still

  -- §19.6: a call that its worker was retired from has not ended
  pub never_done : (start : Start first steps) (c : EndedCall) → BegunBy first steps start c → RetiredFrom first steps start → ⊥
  never_done start c begun gone =
      let ended = ended_over first steps start c begun in
      let left = retired_over first steps start gone in
      subst (IsTurn (λ t. Unit {0}))
      (head-eq_of_cons-eq (same_end first steps start start _ _ _ _ ended left (one_end first steps start _ _ _ _ ended left))) tt

  -- §19.6: and the worker is not at it still
  pub not_still : (start : Start first steps) → StillAt first steps start → RetiredFrom first steps start → ⊥
  not_still start still gone = still_on first steps (retired_over first steps start gone) still

  -- §19.6: a worker was retired from the call of a start once only
  pub one_retiring : (start : Start first steps) (one two : RetiredFrom first steps start) → one.rest ≡ two.rest
  one_retiring start one two =
      let over = retired_over first steps start one in
      let again = retired_over first steps start two in
      tail-eq_of_cons-eq (same_end first steps start start _ _ _ _ over again (one_end first steps start _ _ _ _ over again))

  -- §19.6: a retiring was from the call of one start only
  pub one_retired :
      (start other : Start first steps) (one : RetiredFrom first steps start) (two : RetiredFrom first steps other)
      → one.rest ≡ two.rest
      → start.earlier ≡ other.earlier
  one_retired start other one two same =
      let over = retired_over first steps start one in
      let again = retired_over first steps other two in
      one_owner ready steps start other _ _ _ _ over again
      (omega (
        arith,
        ap length (over_cut first steps over),
        ap length (over_cut first steps again),
        length-append (until first steps over) (retired one.retiring ∷ one.rest),
        length-append (until first steps again) (retired two.retiring ∷ two.rest),
        ap length same,
        until_long first steps over,
        until_long first steps again,
      ))
