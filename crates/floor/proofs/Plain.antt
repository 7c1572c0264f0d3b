-- Plain data as a walk meets it: with one machine value, which its denotation tells and which is owned for nothing. Assumes nothing.
use mathlib.Core.Path.{◌≡◌, refl, sym, subst}
use mathlib.Core.List.{[], ◌∷◌}
use seplogic.Ra.Ura.{Ura}
use lib.Dec.{T}
use mir.Syntax.{Ty, Width, ty_int, w8, w64}
use mir.Val.{Val, vint, WT, has_ty}
use base.Fml.{ftrue}
use types.Logic.{Logic}
use denote.RattleType.{RattleType}
use denote.Exit.{Exit, yes, unchanged, Last, left}
use denote.Laws.{Is, Makes, Tells, Copy}
use denote.Plain.{UInt, uint_Tells, uint_Makes, uint_Lawful, uint_copy}
use denote.Struct.Struct.{Plains, layout}
use denote.Struct.Declared.{Declared, fields, shape}
use denote.Struct.Declared as declared
use denote.Struct.Laws as LL

-- ---- plain data
pub record Plain : Type 2 where
  pub row : RattleType
  pub ty : Ty
  pub val : row.Denot → Val
  pub tells : Tells row (Is row) (λ x. val x ∷ [])
  pub typed : {M : Type 1} {𝓤 : Ura M} (𝓛 : Logic 𝓤) → (x : row.Denot) → Is row x (val x ∷ [])
      → T (has_ty ty (val x)) × WT (val x)
  pub makes : {M : Type 1} {𝓤 : Ura M} (𝓛 : Logic 𝓤) → Makes 𝓛 row (Is row)
  pub copy : {M : Type 1} {𝓤 : Ura M} (𝓛 : Logic 𝓤) → Copy 𝓛 row
  pub still : row.exit yes ≡ unchanged

-- a number of this width
abbrev number : Width → Plain
number w = record {
  row = UInt w;
  ty = ty_int w;
  val = vint w;
  tells = uint_Tells w;
  typed = λ 𝓛 x is. ((uint_Lawful 𝓛 w).typed x _ is).0;
  makes = λ 𝓛. uint_Makes 𝓛 w;
  copy = λ 𝓛. uint_copy 𝓛 w;
  still = refl;
}

abbrev pub byte : Plain
byte = number w8

abbrev pub word : Plain
word = number w64

-- a struct of the source
abbrev pub struct : (S : Declared) (L : LL.Laws S) → LL.Copyables S.parts → Plains (fields S) → Plain
struct S L copies plains = record {
  row = declared.row S;
  ty = layout (shape S);
  val = LL.val S L;
  tells = LL.tells S L;
  typed = λ 𝓛 x is. ((LL.lawful S L 𝓛).typed x _ is).0;
  makes = λ 𝓛. LL.makes S plains 𝓛;
  copy = LL.copy S copies;
  still = LL.still S copies yes;
}

-- of a value that is at exit as it was passed nothing is bound, and nothing is said
pub still_last : (R : RattleType) → R.exit yes ≡ unchanged → (x : R.Denot) → Last (R.exit yes) x
still_last R e x = subst (λ (k : Exit R.Denot). Last k x) (sym e) tt

pub still_silent : (R : RattleType) → R.exit yes ≡ unchanged → (x : R.Denot) (f : Last (R.exit yes) x) → left (R.exit yes) x f ≡ ftrue
still_silent R e x = subst (λ (k : Exit R.Denot). (f : Last k x) → left k x f ≡ ftrue) (sym e) (λ f. refl)
