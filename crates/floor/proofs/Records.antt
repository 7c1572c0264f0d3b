-- A worker's record and a worker's seat, as the walks meet them. Here alone stands the record's size. Assumes `Logic`.
use mathlib.Core.Path.{refl}
use Prim.Native.Nat.{ℕ, ◌<◌, ◌^◌, ◌*◌}
use lib.ListN.{length, get_or, set}
use native.Mathlib.Omega.{arith}
use mathlib.Core.List.{List, [], ◌∷◌}
use seplogic.Ra.Ura.{Ura}
use lib.Dec.{T}
use mir.Val.{Val, WT, has_ty}
use base.Fml.{Lft, Share, Fml, fsep, fat}
use base.Fraction.{full_share}
use types.Logic.{Logic}
use types.Kit.{Item, ‵, Goal, Seq, Step, step, ◌$◌, move, drop, use1}
use borrow.Table.Copies.{parts_laws}
use denote.RattleType.{RattleType, RowLaws}
use denote.Shares.{Shares}
use denote.Index.{row as row_of, place, others, elem_out, elem_back, elem_put}
use denote.Memory.{cell_at, shares}
use denote.Laws.{Is, shows}
use denote.Slice.{Room}
use denote.Steps.{owned}
use Rattle.floor.proofs.Walk.{arg}
use denote.Struct.Laws as LL
use Rattle.turn.specs.declared.Worker.{Worker}
use Rattle.engine.specs.declared.Floor.{Floor}
use Rattle.engine.specs.declared.Seat.{Seat}
use Rattle.engine.specs.Calls.{blank, seat_in}
use Rattle.engine.specs.contracts.Floor as F
use Rattle.engine.proofs.Floor.TheLaws as F'
use Rattle.engine.specs.contracts.Seat as S
use Rattle.engine.proofs.Seat.TheLaws as S'
use Rattle.turn.specs.contracts.Worker as T
use Rattle.turn.proofs.Worker.TheLaws as T'

-- ---- a record: its type, its machine values, and how many bytes lie between two of them
abbrev pub row : RattleType
row = T.the_row

abbrev pub vals : Worker → List Val
vals = LL.vals T.the_type T'.the_laws

abbrev pub val : Worker → Val
val = LL.val T.the_type T'.the_laws

abbrev pub size : ℕ
size = 40

-- the laws of what a `&` to a record holds, and the law by which such a `&` is made
pub row_laws : RowLaws row
row_laws = parts_laws T.the_type (LL.copy_row_laws (T.the_type).parts T'.the_copy)

pub row_shares : {M : Type 1} {𝓤 : Ura M} (𝓛 : Logic 𝓤) (l : Lft) → Shares 𝓛 row l
row_shares 𝓛 l = (LL.copied T.the_type T'.the_copy 𝓛).shares full_share l

-- where element i lies does not wrap
pub scaled : (i n : ℕ) → Room row n → i < n → i * size < 2 ^ 64
scaled i n room l = omega (arith, room.1)

-- what may be stored in a local of the type, and what is owned for nothing
module _ {M : Type 1} {𝓤 : Ura M} (𝓛 : Logic 𝓤) where
  pub typed : (w : Worker) → Is row w (vals w) → T (has_ty T'.mir (val w)) × WT (val w)
  typed w g = ((LL.lawful T.the_type T'.the_laws 𝓛).typed w _ g).0

-- ---- an argument of plain data, which is owned for nothing, before the arguments that are there
module _ {M : Type 1} {𝓤 : Ura M} {𝓛 : Logic 𝓤} {K : Type 0} {Γ : List (Item 𝓤)} {G : Goal 𝓤 𝓛.H} {P : Fml} where
  pub arg_worker : K → (w : Worker) → Is row w (vals w) → Step K 𝓛 (‵ (fsep (row.own_val w (vals w)) P) ∷ Γ) G (‵ P ∷ Γ) G
  arg_worker t w is = arg t row (LL.makes T.the_type T'.the_plain 𝓛) w _ is

-- ---- a worker's seat, put together from a floor, the list's length and the worker's number
abbrev pub seat_vals : Seat → List Val
seat_vals = LL.vals S.the_type S'.the_laws

pub seat_is : (f : Floor) (ys : List Worker) (i : ℕ) → Is F.the_row f (LL.vals F.the_type F'.the_laws f) → length ys < 2 ^ 64 → i < 2 ^ 64
    → Is S.the_row (seat_in f ys i) (seat_vals (seat_in f ys i))
seat_is f ys i f-is long fits = LL.owes S.the_type S'.the_laws (seat_in f ys i) (f-is, ((refl, long), ((refl, fits), tt)))

module _ {M : Type 1} {𝓤 : Ura M} (𝓛 : Logic 𝓤) where
  pub seat_typed : (s : Seat) → Is S.the_row s (seat_vals s)
      → T (has_ty S'.mir (LL.val S.the_type S'.the_laws s)) × WT (LL.val S.the_type S'.the_laws s)
  seat_typed s is = ((LL.lawful S.the_type S'.the_laws 𝓛).typed s _ is).0

module _ {M : Type 1} {𝓤 : Ura M} {𝓛 : Logic 𝓤} {K : Type 0} {Γ : List (Item 𝓤)} {G : Goal 𝓤 𝓛.H} {P : Fml} where
  pub arg_seat : K → (s : Seat) → Is S.the_row s (seat_vals s) → Step K 𝓛 (‵ (fsep ((S.the_row).own_val s (seat_vals s)) P) ∷ Γ) G (‵ P ∷ Γ) G
  arg_seat t s is = arg t S.the_row (LL.makes S.the_type S'.the_plain 𝓛) s _ is

-- ---- one record out of a row of them, as the cell that the code reads or writes, and back: as it was, or another in its place
module _ {M : Type 1} {𝓤 : Ura M} {𝓛 : Logic 𝓤} {K : Type 0} {Γ : List (Item 𝓤)} {G : Goal 𝓤 𝓛.H} where
  pub record_out : K → (q : Share) (ys : List Worker) (i b o : ℕ) → i < length ys
      → (Is row (get_or ys i blank) (vals (get_or ys i blank))
      → Seq K 𝓛 (‵ (fat q T'.mir b (place size o i) (val (get_or ys i blank))) ∷ ‵ (row.own_val (get_or ys i blank) (vals (get_or ys i blank)))
      ∷ ‵ (others (shares row) q ys i b o) ∷ Γ) G)
      → Seq K 𝓛 (‵ (row_of row q ys b o) ∷ Γ) G
  record_out t q ys i b o l k = elem_out t row (Is row) (shows 𝓛 row) vals (LL.tells T.the_type T'.the_laws) q ys i blank b o l (λ is.
      use1 𝓛 (‵ (fat q T'.mir b (place size o i) (val (get_or ys i blank)))) (𝓛.laws.raw_at q T'.mir b (place size o i) (val (get_or ys i blank))) $
      k is)

  pub record_back : K → (q : Share) (ys : List Worker) (i b o : ℕ) → i < length ys
      → Step K 𝓛 (‵ (row_of row q ys b o) ∷ Γ) G (‵ (fat q T'.mir b (place size o i) (val (get_or ys i blank)))
      ∷ ‵ (row.own_val (get_or ys i blank) (vals (get_or ys i blank))) ∷ ‵ (others (shares row) q ys i b o) ∷ Γ) G
  record_back t q ys i b o l = step (λ s.
      use1 𝓛 (‵ (cell_at q row.mir (vals (get_or ys i blank)) b (place size o i))) (𝓛.laws.at_raw q T'.mir b (place size o i)
      (val (get_or ys i blank))) $
      elem_back t row q ys i blank (vals (get_or ys i blank)) b o l $ s)

  pub record_put : K → (ys : List Worker) (i b o : ℕ) (w : Worker) → i < length ys → Is row w (vals w)
      → Step K 𝓛 (‵ (row_of row full_share (set ys i w) b o) ∷ Γ) G (‵ (fat full_share T'.mir b (place size o i) (val w))
      ∷ ‵ (row.own_val (get_or ys i blank) (vals (get_or ys i blank))) ∷ ‵ (others (shares row) full_share ys i b o) ∷ Γ) G
  record_put t ys i b o w l is = step (λ s.
      use1 𝓛 (‵ (cell_at full_share row.mir (vals w) b (place size o i))) (𝓛.laws.at_raw full_share T'.mir b (place size o i) (val w)) $
      move t (1 ∷ []) $ drop t $ owned t row (Is row) (LL.makes T.the_type T'.the_plain 𝓛) w _ is $ move t (1 ∷ 0 ∷ []) $
      elem_put t row full_share ys i w (vals w) b o l $ s)
