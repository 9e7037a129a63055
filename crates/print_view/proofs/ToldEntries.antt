-- Entries that can be told in a text: extensions and fields whose names and values can be, and records of numbers that are small enough.
use Rattle.std.proofs.Common.{◌≡◌, ◌⊎◌, ℕ, ◌^◌, ◌<◌, Bool, true, false, List, [], ◌∷◌, map, subst}
use Rattle.std.specs.List.{AllByRecursion}
use Rattle.protox_lex.specs.Class.{Text}
use Rattle.reflect_tables.specs.Types.{PoolType, FieldType}
use Rattle.reflect_wire.specs.Records.{Payload}
use Rattle.reflect_pool.specs.Shapes.{holds_map}
use Rattle.reflect_message.specs.Known.{holds_floats}
use Rattle.reflect_message.specs.Names.{Value}
use Rattle.print_parts.specs.Entries.{Entry, field, extension, undeclared}
use Rattle.protobuf_model.specs.Types.{Name}
use Rattle.protobuf_model.specs.Values.{Message}
use Rattle.text_model.specs.Printed.{value_in}
use Rattle.text_model.specs.Tree.{Given}
use Rattle.text_model.proofs.Written.{IsValueShown, IsGivenShown}
use Rattle.message_view.specs.Shaped.{FitsAs, Shaped}
use Rattle.message_view.specs.Types.{values_of}
use Rattle.print_view.proofs.KeepsNone.{EntryKeepsNone, FieldKeepsNone, ValueKeepsNone, list_keeps_none, one_keeps_none}
use Rattle.print_view.proofs.Pieces.{Pair}
use Rattle.print_view.proofs.Printer.{Printer}
use Rattle.print_view.proofs.ToldParts.{carried, shown_value}
use Rattle.print_view.proofs.ToldTokens.{TellsRecord, IsPairShown}
use Rattle.print_view.proofs.Values.{given, EntryFits, Whole, not_float, one_of, pair_of}

module _ (printer : Printer) where
  -- its parts
  abbrev p : Bool
  p = printer.pretty

  abbrev pool : PoolType
  pool = printer.pool

  abbrev give : FieldType → Value → Given
  give f v = given printer f v

  abbrev pair : Entry → Pair
  pair e = pair_of printer e

  abbrev IsWhole : Bool → FieldType → Type 0
  IsWhole b f = Whole printer b f

  abbrev fits : ℕ → Entry → Type 0
  fits levels e = EntryFits printer levels e

  -- what is given can be told in a text: behind a name, and, of one value, in a list
  abbrev pub IsShown : (map_too repeated : Bool) → FieldType → Value → Type 0
  IsShown true repeated f v = IsGivenShown p (give (values_of pool f) v)
  IsShown false true f v = IsGivenShown p (give f v)
  IsShown false false f v = IsValueShown p (value_in (give f v))

  -- an entry that can be told, and suits its field
  abbrev pub Fine : ℕ → Entry → Type 0
  Fine levels (field q f v) = fits levels (field q f v) × IsPairShown p (pair (field q f v))
  Fine levels (extension q f v) = fits levels (extension q f v) × IsPairShown p (pair (extension q f v))
  Fine levels (undeclared r) = r.0 < 2 ^ 64

  pub own_fine : (Q : Name → Message → Type 0) (levels : ℕ) (e : Entry) → Fine levels e → EntryKeepsNone pool Q e → fits levels e × IsPairShown p (pair e)
  own_fine Q levels (field q f v) fine none = fine
  own_fine Q levels (extension q f v) fine none = fine
  own_fine Q levels (undeclared r) fine none = absurd none

  one_fine : (levels : ℕ) (e : Entry) → fits levels e → IsPairShown p (pair e) → Fine levels e
  one_fine levels (field q f v) fit shown = (fit, shown)
  one_fine levels (extension q f v) fit shown = (fit, shown)
  one_fine levels (undeclared r) fit shown = absurd fit

  pub all_fine : (levels : ℕ) (es : List Entry) → AllByRecursion (fits levels) es → AllByRecursion (λ e. IsPairShown p (pair e)) es → AllByRecursion (Fine levels) es
  all_fine levels [] fit shown = tt
  all_fine levels (e ∷ es) fit shown = (one_fine levels e fit.0 shown.0, all_fine levels es fit.1 shown.1)

  pub records_fine : (levels : ℕ) (rs : List (ℕ × Payload)) → AllByRecursion (λ (r : ℕ × Payload). r.0 < 2 ^ 64) rs → AllByRecursion (Fine levels) (map undeclared rs)
  records_fine levels [] h = tt
  records_fine levels (r ∷ rs) h = (h.0, records_fine levels rs h.1)

  -- what holds of a field, by whether it is a map, and whether a list
  pub held_told : {z : Text} {Own : Type 0} (Q : Name → Message → Type 0) (f : FieldType) (v : Value) (levels : ℕ) (b c : Bool) → holds_map pool f ≡ b → holds_floats pool f ≡ false
      → ((b c : Bool) → IsWhole b f → FitsAs (Shaped levels) pool f b c v → IsShown b c f v → TellsRecord z ⊎ (Own × ValueKeepsNone pool Q b c f v))
      → FitsAs (Shaped levels) pool f b c v → IsGivenShown p (give (values_of pool f) v) → TellsRecord z ⊎ (Own × FieldKeepsNone pool Q f v)
  held_told Q f v levels true c is whole told fit shown = told true c (whole, is) fit shown
  held_told Q f v levels false true is whole told fit shown =
      let its = one_of printer f is in
      carried (told false true (not_float printer f whole is) fit (subst (λ g. IsGivenShown p (give g v)) its shown))
      (λ t. t) (λ o. (o.0, list_keeps_none pool Q f v its o.1))
  held_told Q f v levels false false is whole told fit shown =
      let its = one_of printer f is in
      carried (told false false (not_float printer f whole is) fit (shown_value p (give f v) (subst (λ g. IsGivenShown p (give g v)) its shown)))
      (λ t. t) (λ o. (o.0, one_keeps_none pool Q f v its o.1))
