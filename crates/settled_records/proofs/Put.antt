-- What edits put into plain records leaves them plain, where it is of the scope that its path leads
-- to, and of those levels.
use Rattle.std.proofs.Common.{◌≡◌, ◌<◌, ◌-◌, ℕ, zero, suc, ℤ, pos, negsuc, Bool, true, false, cond, List, [], ◌∷◌, Option, Some, None, option_map, refl}
use Rattle.std.specs.List.{AllByRecursion}
use Rattle.std.specs.Ordering.{int_eq}
use Rattle.std.proofs.lemmas.Bool.Decides.{Decides-int_eq}
use Rattle.descriptor_records.specs.Content.{EnumContent, EnumValueContent, ExtensionRangeContent, FieldContent, FileContent, LocationContent, MessageContent, message, MessageContents, more_messages, no_messages, messages_of, MethodContent, OneofContent, OptionsContent, ServiceContent}
use Rattle.option_parts.specs.declared.option_scope.OptionScope.{OptionScope}
use Rattle.option_parts.specs.declared.option_scope.OptionScope.TheVariants as scopes
use Rattle.reflect_growth.specs.Put.{enum_put, field_put, file_put, location_put, message_put, method_put, nested_at, oneof_put, own_put, path_put, put_in, put_nested, range_put, service_put, value_put, with_at}
use Rattle.plain_records.specs.PlainRecords.{ArePlainLocations, ArePlainMessages, ArePlainOptions, FitsInt32, IfThere, IsInside, IsPlainEnum, IsPlainEnumValue, IsPlainExtensionRange, IsPlainField, IsPlainFile, IsPlainLocation, IsPlainMessage, IsPlainMethod, IsPlainOneof, IsPlainService}

-- ---- options that may stand where a path leads
abbrev pub Own : (OptionScope → OptionsContent → Type 0) → OptionScope → ℕ → List ℤ → OptionsContent → Type 0
Own Says scope levels [] o = (0 < levels) × Says scope o
Own Says scope levels (number ∷ rest) o = Unit {0}

-- below a record, each scope of part by the number of its list
abbrev pub SuitsEnum : (OptionScope → OptionsContent → Type 0) → ℕ → List ℤ → OptionsContent → Type 0
SuitsEnum Says levels [] o = (0 < levels) × Says scopes.Enum o
SuitsEnum Says levels (number ∷ []) o = Unit {0}
SuitsEnum Says levels (number ∷ place ∷ rest) o = number ≡ pos 2 → Own Says scopes.EnumValue (levels - 1) rest o

abbrev pub SuitsService : (OptionScope → OptionsContent → Type 0) → ℕ → List ℤ → OptionsContent → Type 0
SuitsService Says levels [] o = (0 < levels) × Says scopes.Service o
SuitsService Says levels (number ∷ []) o = Unit {0}
SuitsService Says levels (number ∷ place ∷ rest) o = number ≡ pos 2 → Own Says scopes.Method (levels - 1) rest o

-- in a message, in which so many levels are left
pub record SuitsPart (Says : OptionScope → OptionsContent → Type 0) (levels : ℕ) (number : ℤ) (rest : List ℤ) (o : OptionsContent) (Nested : Type 0) : Type 0 where
  pub field : number ≡ pos 2 → Own Says scopes.Field (levels - 1) rest o
  pub extension : number ≡ pos 6 → Own Says scopes.Field (levels - 1) rest o
  pub nested : number ≡ pos 3 → Nested
  pub enum : number ≡ pos 4 → SuitsEnum Says (levels - 1) rest o
  pub range : number ≡ pos 5 → Own Says scopes.ExtensionRange (levels - 1) rest o
  pub oneof : number ≡ pos 8 → Own Says scopes.Oneof (levels - 1) rest o

abbrev pub SuitsMessage : (OptionScope → OptionsContent → Type 0) → ℕ → List ℤ → OptionsContent → Type 0
SuitsMessage Says levels [] o = (0 < levels - 1) × Says scopes.Message o
SuitsMessage Says levels (number ∷ []) o = Unit {0}
SuitsMessage Says levels (number ∷ place ∷ rest) o = SuitsPart Says (levels - 1) number rest o (SuitsMessage Says (levels - 1) rest o)

pub record SuitsPartOfFile (Says : OptionScope → OptionsContent → Type 0) (levels : ℕ) (number : ℤ) (rest : List ℤ) (o : OptionsContent) : Type 0 where
  pub message : number ≡ pos 4 → SuitsMessage Says levels rest o
  pub enum : number ≡ pos 5 → SuitsEnum Says (levels - 1) rest o
  pub service : number ≡ pos 6 → SuitsService Says (levels - 1) rest o
  pub extension : number ≡ pos 7 → Own Says scopes.Field (levels - 1) rest o

abbrev pub SuitsFile : (OptionScope → OptionsContent → Type 0) → ℕ → List ℤ → OptionsContent → Type 0
SuitsFile Says levels [] o = (0 < levels) × Says scopes.File o
SuitsFile Says levels (number ∷ []) o = Unit {0}
SuitsFile Says levels (number ∷ place ∷ rest) o = SuitsPartOfFile Says levels number rest o

-- ---- lists
pub at_plain : {A : Type 0} (P : A → Type 0) (f : A → A) → ((x : A) → P x → P (f x)) → (k : ℕ) (xs : List A)
    → AllByRecursion P xs → AllByRecursion P (with_at k f xs)
at_plain P f keeps k [] plain = tt
at_plain P f keeps zero (x ∷ xs) plain = (keeps x plain.0, plain.1)
at_plain P f keeps (suc k) (x ∷ xs) plain = (plain.0, at_plain P f keeps k xs plain.1)

-- what is done where two numbers are equal keeps what is so
if_equal : {A : Type 0} (P : A → Type 0) (x y : ℤ) (a b : A) → (x ≡ y → P a) → P b → P (cond (int_eq x y) a b)
if_equal P x y a b there other = by (int_eq x y) refl
  where
    by : (c : Bool) → int_eq x y ≡ c → P (cond c a b)
    by true e = there ((Decides-int_eq x y).0 e)
    by false e = other

in_plain : {A : Type 0} (P : A → Type 0) (f : A → A) (list : ℕ) (number place : ℤ) → (number ≡ pos list → (x : A) → P x → P (f x)) → (xs : List A)
    → AllByRecursion P xs → AllByRecursion P (put_in list f number place xs)
in_plain P f list number (pos k) keeps xs plain =
    if_equal (AllByRecursion P) number (pos list) (with_at k f xs) xs (λ e. at_plain P f (keeps e) k xs plain) plain
in_plain P f list number (negsuc k) keeps xs plain = plain

-- ---- records
module _ (Says : OptionScope → OptionsContent → Type 0) where
  own_plain : (scope : OptionScope) (levels : ℕ) (path : List ℤ) (o : OptionsContent) (was : Option OptionsContent)
      → Own Says scope levels path o → ArePlainOptions Says scope levels was → ArePlainOptions Says scope levels (own_put path o was)
  own_plain scope levels [] o was suits plain = suits
  own_plain scope levels (number ∷ rest) o was suits plain = plain

  field_plain : (levels : ℕ) (path : List ℤ) (o : OptionsContent) → Own Says scopes.Field (levels - 1) path o → (f : FieldContent)
      → IsInside (IsPlainField Says) levels f → IsInside (IsPlainField Says) levels (field_put path o f)
  field_plain levels path o suits f plain = (
    plain.0,
    record {
      number = plain.1.number;
      label = plain.1.label;
      field_type = plain.1.field_type;
      options = own_plain scopes.Field (levels - 1) path o f.options suits plain.1.options;
      oneof_index = plain.1.oneof_index;
    },
  )

  value_plain : (levels : ℕ) (path : List ℤ) (o : OptionsContent) → Own Says scopes.EnumValue (levels - 1) path o → (v : EnumValueContent)
      → IsInside (IsPlainEnumValue Says) levels v → IsInside (IsPlainEnumValue Says) levels (value_put path o v)
  value_plain levels path o suits v plain = (
    plain.0,
    record {
      number = plain.1.number;
      options = own_plain scopes.EnumValue (levels - 1) path o v.options suits plain.1.options;
    },
  )

  range_plain : (levels : ℕ) (path : List ℤ) (o : OptionsContent) → Own Says scopes.ExtensionRange (levels - 1) path o → (r : ExtensionRangeContent)
      → IsInside (IsPlainExtensionRange Says) levels r → IsInside (IsPlainExtensionRange Says) levels (range_put path o r)
  range_plain levels path o suits r plain = (
    plain.0,
    record {
      start = plain.1.start;
      end = plain.1.end;
      options = own_plain scopes.ExtensionRange (levels - 1) path o r.options suits plain.1.options;
    },
  )

  oneof_plain : (levels : ℕ) (path : List ℤ) (o : OptionsContent) → Own Says scopes.Oneof (levels - 1) path o → (x : OneofContent)
      → IsInside (IsPlainOneof Says) levels x → IsInside (IsPlainOneof Says) levels (oneof_put path o x)
  oneof_plain levels path o suits x plain = (plain.0, own_plain scopes.Oneof (levels - 1) path o x.options suits plain.1)

  method_plain : (levels : ℕ) (path : List ℤ) (o : OptionsContent) → Own Says scopes.Method (levels - 1) path o → (m : MethodContent)
      → IsInside (IsPlainMethod Says) levels m → IsInside (IsPlainMethod Says) levels (method_put path o m)
  method_plain levels path o suits m plain = (plain.0, own_plain scopes.Method (levels - 1) path o m.options suits plain.1)

  enum_plain : (levels : ℕ) (path : List ℤ) (o : OptionsContent) → SuitsEnum Says (levels - 1) path o → (e : EnumContent)
      → IsInside (IsPlainEnum Says) levels e → IsInside (IsPlainEnum Says) levels (enum_put path o e)
  enum_plain levels [] o suits e plain = (
    plain.0,
    record {
      value = plain.1.value;
      options = suits;
      reserved_range = plain.1.reserved_range;
    },
  )
  enum_plain levels (number ∷ []) o suits e plain = plain
  enum_plain levels (number ∷ place ∷ rest) o suits e plain = (
    plain.0,
    record {
      value = in_plain (IsInside (IsPlainEnumValue Says) (levels - 1)) (value_put rest o) 2 number place (λ is. value_plain (levels - 1) rest o (suits is)) e.value plain.1.value;
      options = plain.1.options;
      reserved_range = plain.1.reserved_range;
    },
  )

  service_plain : (levels : ℕ) (path : List ℤ) (o : OptionsContent) → SuitsService Says (levels - 1) path o → (s : ServiceContent)
      → IsInside (IsPlainService Says) levels s → IsInside (IsPlainService Says) levels (service_put path o s)
  service_plain levels [] o suits s plain = (plain.0, record { method = plain.1.method; options = suits })
  service_plain levels (number ∷ []) o suits s plain = plain
  service_plain levels (number ∷ place ∷ rest) o suits s plain = (
    plain.0,
    record {
      method = in_plain (IsInside (IsPlainMethod Says) (levels - 1)) (method_put rest o) 2 number place (λ is. method_plain (levels - 1) rest o (suits is)) s.method plain.1.method;
      options = plain.1.options;
    },
  )

  -- ---- messages
  nested_plain : (levels : ℕ) (f : MessageContent → MessageContent) → ((m : MessageContent) → IsPlainMessage Says levels m → IsPlainMessage Says levels (f m))
      → (k : ℕ) (ms : MessageContents) → ArePlainMessages Says levels ms → ArePlainMessages Says levels (nested_at k f ms)
  nested_plain levels f keeps k no_messages plain = tt
  nested_plain levels f keeps zero (more_messages m ms) plain = (keeps m plain.0, plain.1)
  nested_plain levels f keeps (suc k) (more_messages m ms) plain = (plain.0, nested_plain levels f keeps k ms plain.1)

  put_nested_plain : (levels : ℕ) (f : MessageContent → MessageContent) (number place : ℤ)
      → (number ≡ pos 3 → (m : MessageContent) → IsPlainMessage Says levels m → IsPlainMessage Says levels (f m))
      → (ms : MessageContents) → ArePlainMessages Says levels ms → ArePlainMessages Says levels (put_nested f number place ms)
  put_nested_plain levels f number (pos k) keeps ms plain =
      if_equal (ArePlainMessages Says levels) number (pos 3) (nested_at k f ms) ms (λ e. nested_plain levels f (keeps e) k ms plain) plain
  put_nested_plain levels f number (negsuc k) keeps ms plain = plain

  message_plain : (levels : ℕ) (path : List ℤ) (o : OptionsContent) → SuitsMessage Says levels path o → (m : MessageContent)
      → IsPlainMessage Says levels m → IsPlainMessage Says levels (message_put path o m)
  message_plain levels [] o suits (message name fields extensions nested enums ranges oneofs options reserved names) plain = (
    plain.0,
    record {
      fields_are = plain.1.fields_are;
      extensions_are = plain.1.extensions_are;
      enums_are = plain.1.enums_are;
      ranges_are = plain.1.ranges_are;
      oneofs_are = plain.1.oneofs_are;
      options_are = suits;
      reserved_are = plain.1.reserved_are;
    },
    plain.2,
  )
  message_plain levels (number ∷ []) o suits m plain = plain
  message_plain levels (number ∷ place ∷ rest) o suits (message name fields extensions nested enums ranges oneofs options reserved names) plain =
      let l = levels - 1 in
      let own = plain.1 in (
        plain.0,
        record {
          fields_are = in_plain (IsInside (IsPlainField Says) l) (field_put rest o) 2 number place (λ is. field_plain l rest o (suits.field is)) fields own.fields_are;
          extensions_are = in_plain (IsInside (IsPlainField Says) l) (field_put rest o) 6 number place (λ is. field_plain l rest o (suits.extension is)) extensions own.extensions_are;
          enums_are = in_plain (IsInside (IsPlainEnum Says) l) (enum_put rest o) 4 number place (λ is. enum_plain l rest o (suits.enum is)) enums own.enums_are;
          ranges_are = in_plain (IsInside (IsPlainExtensionRange Says) l) (range_put rest o) 5 number place (λ is. range_plain l rest o (suits.range is)) ranges own.ranges_are;
          oneofs_are = in_plain (IsInside (IsPlainOneof Says) l) (oneof_put rest o) 8 number place (λ is. oneof_plain l rest o (suits.oneof is)) oneofs own.oneofs_are;
          options_are = own.options_are;
          reserved_are = own.reserved_are;
        },
        put_nested_plain l (message_put rest o) number place (λ is. message_plain l rest o (suits.nested is)) nested plain.2,
      )

  -- ---- files
  types_plain : (levels : ℕ) (f : MessageContent → MessageContent) → ((m : MessageContent) → IsPlainMessage Says levels m → IsPlainMessage Says levels (f m))
      → (k : ℕ) (ms : List MessageContent) → ArePlainMessages Says levels (messages_of ms) → ArePlainMessages Says levels (messages_of (with_at k f ms))
  types_plain levels f keeps k [] plain = tt
  types_plain levels f keeps zero (m ∷ ms) plain = (keeps m plain.0, plain.1)
  types_plain levels f keeps (suc k) (m ∷ ms) plain = (plain.0, types_plain levels f keeps k ms plain.1)

  put_types_plain : (levels : ℕ) (f : MessageContent → MessageContent) (number place : ℤ)
      → (number ≡ pos 4 → (m : MessageContent) → IsPlainMessage Says levels m → IsPlainMessage Says levels (f m))
      → (ms : List MessageContent) → ArePlainMessages Says levels (messages_of ms) → ArePlainMessages Says levels (messages_of (put_in 4 f number place ms))
  put_types_plain levels f number (pos k) keeps ms plain =
      if_equal (λ xs. ArePlainMessages Says levels (messages_of xs)) number (pos 4) (with_at k f ms) ms (λ e. types_plain levels f (keeps e) k ms plain) plain
  put_types_plain levels f number (negsuc k) keeps ms plain = plain

  pub file_plain : (levels : ℕ) (path : List ℤ) (o : OptionsContent) → SuitsFile Says levels path o → (f : FileContent)
      → IsPlainFile Says levels f → IsPlainFile Says levels (file_put path o f)
  file_plain levels [] o suits f plain = record {
    message_type = plain.message_type;
    enum_type = plain.enum_type;
    service = plain.service;
    extension = plain.extension;
    options = suits;
    source_code_info = plain.source_code_info;
    public_dependency = plain.public_dependency;
    weak_dependency = plain.weak_dependency;
  }
  file_plain levels (number ∷ []) o suits f plain = plain
  file_plain levels (number ∷ place ∷ rest) o suits f plain = record {
    message_type = put_types_plain levels (message_put rest o) number place (λ is. message_plain levels rest o (suits.message is)) f.message_type plain.message_type;
    enum_type = in_plain (IsInside (IsPlainEnum Says) levels) (enum_put rest o) 5 number place (λ is. enum_plain levels rest o (suits.enum is)) f.enum_type plain.enum_type;
    service = in_plain (IsInside (IsPlainService Says) levels) (service_put rest o) 6 number place (λ is. service_plain levels rest o (suits.service is)) f.service plain.service;
    extension = in_plain (IsInside (IsPlainField Says) levels) (field_put rest o) 7 number place (λ is. field_plain levels rest o (suits.extension is)) f.extension plain.extension;
    options = plain.options;
    source_code_info = plain.source_code_info;
    public_dependency = plain.public_dependency;
    weak_dependency = plain.weak_dependency;
  }

  -- the path of a location
  pub path_plain : (levels k : ℕ) (path : List ℤ) → AllByRecursion FitsInt32 path → (f : FileContent)
      → IsPlainFile Says levels f → IsPlainFile Says levels (path_put k path f)
  path_plain levels k path fits f plain = record {
    message_type = plain.message_type;
    enum_type = plain.enum_type;
    service = plain.service;
    extension = plain.extension;
    options = plain.options;
    source_code_info = by f.source_code_info plain.source_code_info;
    public_dependency = plain.public_dependency;
    weak_dependency = plain.weak_dependency;
  }
    where
      by : (ls : Option (List LocationContent)) → IfThere (ArePlainLocations levels) ls
          → IfThere (ArePlainLocations levels) (option_map (with_at k (location_put path)) ls)
      by None plain = tt
      by (Some ls) plain = (plain.0, at_plain (IsInside IsPlainLocation (levels - 1)) (location_put path) (λ l is. (is.0, (fits, is.1.1))) k ls plain.1)
