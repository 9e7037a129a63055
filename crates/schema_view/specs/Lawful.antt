-- When files may be added to others, and what is then there.
use Rattle.std.specs.Prelude.{◌≡◌, ◌≤◌, ℕ, ℤ, pos, List, [], ◌∷◌, ◌++◌, map, sum_by, Bool, true, false, ◌&&◌, cond, Option, Some, None, Contains}
use Rattle.std.specs.Str.{bytes_eq}
use Rattle.descriptor_records.specs.Content.{Text, FieldContent, FileContent}
use Rattle.schema_view.specs.Files.{IsThere, HasSyntax, is_proto3, Import, imports_of, HavePlaces}
use Rattle.schema_view.specs.Declarations.{MessageFacts, Range, Body, of_message, of_field, of_extension, Declaration, declarations}
use Rattle.schema_view.specs.References.{Reference, references, Target, linked}
use Rattle.schema_view.specs.Outlines.{Outline, outline_of, message_sort, enum_sort, IsNamed, IsDeclared, AreApart}
use Rattle.schema_view.specs.Means.{ReferenceMeans}
use Rattle.schema_view.specs.Rules.{is_number, IsIn, SaysEntry, IsSound}

abbrev pub outlines : List FileContent → List Outline
outlines fs = map outline_of fs

-- what each reference of each file means
abbrev pub Meanings : Type 0
Meanings = FileContent → Reference → Target

abbrev pub all_linked : Meanings → List FileContent → List FileContent
all_linked meanings fs = map (λ f. linked (meanings f) f) fs

-- a name as linked files write it: the full name behind a dot
abbrev pub is_dotted : Text → Option Text → Bool
is_dotted full None = false
is_dotted full (Some name) = bytes_eq name (46 ∷ full)

-- the message that an extension extends, and its number there
abbrev pub Key : Type 0
Key = Text × ℤ

abbrev pub has_key : Key → Body → Bool
has_key k (of_extension x) = is_dotted k.0 x.extendee && is_number k.1 x.number
has_key k _ = false

-- how often declarations pass a test
abbrev pub times_by : (Body → Bool) → List FileContent → ℕ
times_by test fs = sum_by (λ f. sum_by (λ d. cond (test d.body) 1 0) (declarations f)) fs

-- a field or an extension whose type is the message of the full name
abbrev pub is_use : Text → Body → Bool
is_use full (of_field f) = is_dotted full f.type_name
is_use full (of_extension x) = is_dotted full x.type_name
is_use full _ = false

-- what has the type of a map's entries is a map: repeated, and no group
abbrev pub IsMap : FieldContent → Type 0
IsMap f = (f.label ≡ Some (pos 3)) × (f.field_type ≡ Some (pos 11))

abbrev pub IsMapUse : Text → Body → Type 0
IsMapUse full (of_field f) = is_dotted full f.type_name ≡ true → IsMap f
IsMapUse full (of_extension x) = is_dotted full x.type_name ≡ true → IsMap x
IsMapUse full _ = Unit {0}

-- the type of a map's entries is the type of one field or extension, which is a map
pub record IsOneMap (fs : List FileContent) (full : Text) : Type 0 where
  pub once : times_by (is_use full) fs ≡ 1
  pub map : (f : FileContent) (d : Declaration) → Contains fs f → Contains (declarations f) d
      → IsMapUse full d.body

-- a message of the name keeps the number for extensions, and for nothing else
abbrev pub KeepsForExtensions : List Outline → Text → ℤ → Type 0
KeepsForExtensions os full n =
    (extensions reserved : List Range) × IsDeclared os full (message_sort extensions reserved)
    × ((r : Range) × Contains extensions r × IsIn n r)
    × ((r : Range) → Contains reserved r → IsIn n r → ⊥)

-- an extension as linked files write it
abbrev pub KeepsNumber : List Outline → Body → Type 0
KeepsNumber os (of_extension x) =
    (full : Text) (n : ℤ) → x.extendee ≡ Some (46 ∷ full) → x.number ≡ Some n
    → KeepsForExtensions os full n
KeepsNumber os _ = Unit {0}

-- the default of a field or extension whose type has a name is that of one of an enum's values
abbrev pub HasNamedDefault : List Outline → FieldContent → Type 0
HasNamedDefault os f =
    (text full : Text) → f.default_value ≡ Some text → f.type_name ≡ Some (46 ∷ full)
    → (values : List Text) × IsDeclared os full (enum_sort values) × Contains values text

abbrev pub SuitsEnum : List Outline → Body → Type 0
SuitsEnum os (of_field f) = HasNamedDefault os f
SuitsEnum os (of_extension x) = HasNamedDefault os x
SuitsEnum os _ = Unit {0}

-- the rules of files as linked, in what they say of others
pub record IsSettled (os : List Outline) (b : Body) : Type 0 where
  pub numbers : KeepsNumber os b
  pub defaults : SuitsEnum os b

-- and of all together
pub record AreSettled (fs : List FileContent) : Type 0 where
  pub extended : (k : Key) → times_by (has_key k) fs ≤ 1
  pub entries : (f : FileContent) (d : Declaration) (m : MessageFacts)
      → Contains fs f → Contains (declarations f) d → d.body ≡ of_message m → SaysEntry m.options
      → IsOneMap fs d.name

-- a file by itself: a name, a syntax, and public imports among its imports
pub record IsFile (f : FileContent) : Type 0 where
  pub name : IsThere f.name
  pub syntax : HasSyntax f
  pub publics : HavePlaces f

-- the rules that new files meet behind older ones, each a statement on the set of both
pub record IsLawful (old new : List FileContent) (meanings : Meanings) : Type 0 where
  pub apart : AreApart (outlines (old ++ new))
  pub files : (f : FileContent) → Contains new f → IsFile f
  pub imports : (f : FileContent) (i : Import)
      → Contains new f → Contains (imports_of f) i → IsNamed (outlines (old ++ new)) i.file
  pub means : (f : FileContent) (r : Reference)
      → Contains new f → Contains (references f) r
      → ReferenceMeans (outlines (old ++ new)) (outline_of f) r (meanings f r)
  pub sound : (f : FileContent) (d : Declaration)
      → Contains new f → Contains (declarations f) d → IsSound (is_proto3 f) d.body
  pub settled : (f : FileContent) (d : Declaration)
      → Contains new f → Contains (declarations (linked (meanings f) f)) d
      → IsSettled (outlines (old ++ new)) d.body
  pub together : AreSettled (old ++ all_linked meanings new)

-- the new files are lawful, and stand behind the older ones, linked
abbrev pub AddsLawful : List FileContent → List FileContent → List FileContent → Type 0
AddsLawful old new after = (meanings : Meanings) × IsLawful old new meanings
    × (after ≡ old ++ all_linked meanings new)

-- batches, the last of them first, are added one behind the other
abbrev pub Builds : List (List FileContent) → List FileContent → Type 0
Builds [] after = after ≡ []
Builds (new ∷ earlier) after =
    (old : List FileContent) × Builds earlier old × AddsLawful old new after

-- the files of all batches
abbrev pub sources : List (List FileContent) → List FileContent
sources [] = []
sources (new ∷ earlier) = new ++ sources earlier

abbrev pub SameFiles : List FileContent → List FileContent → Type 0
SameFiles fs gs = (f : FileContent) → (Contains fs f → Contains gs f)
    × (Contains gs f → Contains fs f)
