-- What an edit puts at a path is there, and all other options stay.
use Rattle.std.proofs.Common.{◌≡◌, ◌⊎◌, ◌+◌, ℕ, zero, suc, ℤ, pos, negsuc, Bool, true, false, cond, List, [], ◌∷◌, Option, Some, inl, inr, refl, sym, subst, arith}
use Rattle.std.specs.Ordering.{int_eq}
use Rattle.std.proofs.lemmas.Bool.Decides.{Decides-int_eq}
use Rattle.descriptor_records.specs.Content.{EnumContent, EnumValueContent, ExtensionRangeContent, FieldContent, FileContent, MessageContent, message, MessageContents, more_messages, no_messages, MethodContent, OneofContent, OptionsContent, ServiceContent}
use Rattle.option_parts.specs.declared.option_scope.OptionScope.{OptionScope}
use Rattle.option_parts.specs.declared.option_scope.OptionScope.TheVariants as scopes
use Rattle.reflect_growth.specs.Put.{enum_put, field_put, file_put, message_put, method_put, nested_at, oneof_put, own_put, path_put, put_in, put_nested, range_put, service_put, value_put, with_at}
use Rattle.settled_records.proofs.AllOptions.{InEnum, InField, InFile, InList, InMessage, InMessages, InMethod, InOneof, InOwn, InRange, InService, InValue, Keeps, KeepsAll, KeepsFrom, Said, below, declared_keep, enum_keeps, field_keeps, list_keeps, message_keeps, messages_keep, method_keeps, oneof_keeps, own_keeps, parts_keep, range_keeps, service_keeps, value_keeps}

-- options that are put at a path: these are so there, and all others that were
pub record Puts (new : OptionsContent) (Q R : Said) (at : List ℤ) : Type 0 where
  pub fresh : (scope : OptionScope) → R scope at new
  pub others : (scope : OptionScope) (path : List ℤ) (o : OptionsContent) → Q scope path o → (path ≡ at) ⊎ R scope path o

place_is : (number other : ℤ) (k j : ℕ) (path rest : List ℤ) → number ∷ pos k ∷ path ≡ other ∷ pos j ∷ rest → k ≡ j
place_is number other k j path rest e = cc

number_is : (number other place : ℤ) (k : ℕ) (path rest : List ℤ) → number ∷ pos k ∷ path ≡ other ∷ place ∷ rest → number ≡ other
number_is number other place k path rest e = cc

rest_is : (number : ℤ) (k : ℕ) (path rest : List ℤ) → number ∷ pos k ∷ path ≡ number ∷ pos k ∷ rest → path ≡ rest
rest_is number k path rest e = cc

module _ (new : OptionsContent) where
  -- in an entry that the path does not lead to
  past : (Q R : Said) (at : List ℤ) → Puts new Q R at → (number : ℤ) (k : ℕ) → ((path : List ℤ) → number ∷ pos k ∷ path ≡ at → ⊥) → Keeps (below Q number k) (below R number k)
  past Q R at puts number k misses scope path o was = elim (puts.others scope (number ∷ pos k ∷ path) o was) [ inl e ↦ absurd (misses path e) | inr is ↦ is ]

  -- in the entry that it leads to
  into : (Q R : Said) (number : ℤ) (k : ℕ) (rest : List ℤ) → Puts new Q R (number ∷ pos k ∷ rest) → Puts new (below Q number k) (below R number k) rest
  into Q R number k rest puts = record {
    fresh = λ scope. puts.fresh scope;
    others = λ scope path o was. elim (puts.others scope (number ∷ pos k ∷ path) o was) [ inl e ↦ inl (rest_is number k path rest e) | inr is ↦ inr is ];
  }

  -- a record's own options, where the path goes on
  own_stay : (scope : OptionScope) (Q R : Said) (at : List ℤ) → Puts new Q R at → ([] ≡ at → ⊥) → (x : Option OptionsContent) → InOwn scope Q x → InOwn scope R x
  own_stay scope Q R at puts misses x all = own_keeps scope Q R (λ o was. elim (puts.others scope [] o was) [ inl e ↦ absurd (misses e) | inr is ↦ is ]) x all

  goes_on : (number : ℤ) (rest : List ℤ) → [] ≡ number ∷ rest → ⊥
  goes_on number rest e = cc

  -- ---- lists
  abbrev PutsAll : {A : Type 0} → (Said → A → Type 0) → (A → A) → List ℤ → Type 1
  PutsAll In f rest = (Q R : Said) → Puts new Q R rest → (x : _) → In Q x → In R (f x)

  module _ {A : Type 0} (In : Said → A → Type 0) (keeps : KeepsAll In) (f : A → A) (rest : List ℤ) (each : PutsAll In f rest) where
    at_puts : (Q R : Said) (number : ℤ) (at : ℕ) → Puts new Q R (number ∷ pos at ∷ rest) → (k place : ℕ) → place + k ≡ at → (xs : List A)
        → InList In Q number place xs → InList In R number place (with_at k f xs)
    at_puts Q R number at puts k place is [] all = tt
    at_puts Q R number at puts zero place is (x ∷ xs) all =
        let here : at ≡ place = omega arith in (
          each (below Q number place) (below R number place) (into Q R number place rest (subst (λ n. Puts new Q R (number ∷ pos n ∷ rest)) here puts)) x all.0,
          list_keeps In keeps Q R number (place + 1)
              (λ k far. past Q R (number ∷ pos at ∷ rest) puts number k (λ path e. let same = place_is number number k at path rest e in omega arith)) xs all.1,
        )
    at_puts Q R number at puts (suc k) place is (x ∷ xs) all = (
      keeps (below Q number place) (below R number place)
          (past Q R (number ∷ pos at ∷ rest) puts number place (λ path e. let same = place_is number number place at path rest e in omega arith)) x all.0,
      at_puts Q R number at puts k (place + 1) (omega arith) xs all.1,
    )

    in_puts : (Q R : Said) (list : ℕ) (number place : ℤ) → Puts new Q R (number ∷ place ∷ rest) → (xs : List A)
        → InList In Q (pos list) 0 xs → InList In R (pos list) 0 (put_in list f number place xs)
    in_puts Q R list number (negsuc n) puts xs all =
        list_keeps In keeps Q R (pos list) 0 (λ k far. past Q R (number ∷ negsuc n ∷ rest) puts (pos list) k (λ path e. cc)) xs all
    in_puts Q R list number (pos at) puts xs all = by (int_eq number (pos list)) refl
      where
        by : (b : Bool) → int_eq number (pos list) ≡ b → InList In R (pos list) 0 (cond b (with_at at f xs) xs)
        by true e = at_puts Q R (pos list) at (subst (λ n. Puts new Q R (n ∷ pos at ∷ rest)) ((Decides-int_eq number (pos list)).0 e) puts) at 0 (omega arith) xs all
        by false e = list_keeps In keeps Q R (pos list) 0
            (λ k far. past Q R (number ∷ pos at ∷ rest) puts (pos list) k
            (λ path same. cc ((Decides-int_eq number (pos list)).1 (sym (number_is (pos list) number (pos at) k path rest same)), e))) xs all

  -- ---- records
  own_puts : (scope : OptionScope) (path : List ℤ) (Q R : Said) → Puts new Q R path → (x : Option OptionsContent) → InOwn scope Q x → InOwn scope R (own_put path new x)
  own_puts scope [] Q R puts x all = puts.fresh scope
  own_puts scope (number ∷ rest) Q R puts x all = own_stay scope Q R (number ∷ rest) puts (goes_on number rest) x all

  field_puts : (path : List ℤ) (Q R : Said) → Puts new Q R path → (f : FieldContent) → InField Q f → InField R (field_put path new f)
  field_puts path Q R puts f all = own_puts scopes.Field path Q R puts f.options all

  oneof_puts : (path : List ℤ) (Q R : Said) → Puts new Q R path → (x : OneofContent) → InOneof Q x → InOneof R (oneof_put path new x)
  oneof_puts path Q R puts x all = own_puts scopes.Oneof path Q R puts x.options all

  range_puts : (path : List ℤ) (Q R : Said) → Puts new Q R path → (r : ExtensionRangeContent) → InRange Q r → InRange R (range_put path new r)
  range_puts path Q R puts r all = own_puts scopes.ExtensionRange path Q R puts r.options all

  value_puts : (path : List ℤ) (Q R : Said) → Puts new Q R path → (v : EnumValueContent) → InValue Q v → InValue R (value_put path new v)
  value_puts path Q R puts v all = own_puts scopes.EnumValue path Q R puts v.options all

  method_puts : (path : List ℤ) (Q R : Said) → Puts new Q R path → (m : MethodContent) → InMethod Q m → InMethod R (method_put path new m)
  method_puts path Q R puts m all = own_puts scopes.Method path Q R puts m.options all

  -- a path of fewer than two steps leads to no entry
  above : (Q R : Said) → Puts new Q R [] → (number : ℤ) → KeepsFrom Q R number 0
  above Q R puts number k far = past Q R [] puts number k (λ path e. cc)

  short : (Q R : Said) (only : ℤ) → Puts new Q R (only ∷ []) → (number : ℤ) → KeepsFrom Q R number 0
  short Q R only puts number k far = past Q R (only ∷ []) puts number k (λ path e. cc)

  enum_puts : (path : List ℤ) (Q R : Said) → Puts new Q R path → (e : EnumContent) → InEnum Q e → InEnum R (enum_put path new e)
  enum_puts [] Q R puts e all = (puts.fresh scopes.Enum, list_keeps InValue value_keeps Q R (pos 2) 0 (above Q R puts (pos 2)) e.value all.1)
  enum_puts (number ∷ []) Q R puts e all =
      (own_stay scopes.Enum Q R (number ∷ []) puts (goes_on number []) e.options all.0, list_keeps InValue value_keeps Q R (pos 2) 0 (short Q R number puts (pos 2)) e.value all.1)
  enum_puts (number ∷ place ∷ rest) Q R puts e all = (
    own_stay scopes.Enum Q R (number ∷ place ∷ rest) puts (goes_on number (place ∷ rest)) e.options all.0,
    in_puts InValue value_keeps (value_put rest new) rest (value_puts rest) Q R 2 number place puts e.value all.1,
  )

  service_puts : (path : List ℤ) (Q R : Said) → Puts new Q R path → (s : ServiceContent) → InService Q s → InService R (service_put path new s)
  service_puts [] Q R puts s all = (puts.fresh scopes.Service, list_keeps InMethod method_keeps Q R (pos 2) 0 (above Q R puts (pos 2)) s.method all.1)
  service_puts (number ∷ []) Q R puts s all =
      (own_stay scopes.Service Q R (number ∷ []) puts (goes_on number []) s.options all.0, list_keeps InMethod method_keeps Q R (pos 2) 0 (short Q R number puts (pos 2)) s.method all.1)
  service_puts (number ∷ place ∷ rest) Q R puts s all = (
    own_stay scopes.Service Q R (number ∷ place ∷ rest) puts (goes_on number (place ∷ rest)) s.options all.0,
    in_puts InMethod method_keeps (method_put rest new) rest (method_puts rest) Q R 2 number place puts s.method all.1,
  )

  -- ---- messages
  module _ (f : MessageContent → MessageContent) (rest : List ℤ) (each : PutsAll InMessage f rest) where
    nested_at_puts : (Q R : Said) (number : ℤ) (at : ℕ) → Puts new Q R (number ∷ pos at ∷ rest) → (k place : ℕ) → place + k ≡ at → (ms : MessageContents)
        → InMessages Q number place ms → InMessages R number place (nested_at k f ms)
    nested_at_puts Q R number at puts k place is no_messages all = tt
    nested_at_puts Q R number at puts zero place is (more_messages m ms) all =
        let here : at ≡ place = omega arith in (
          each (below Q number place) (below R number place) (into Q R number place rest (subst (λ n. Puts new Q R (number ∷ pos n ∷ rest)) here puts)) m all.0,
          messages_keep Q R number (place + 1)
              (λ k far. past Q R (number ∷ pos at ∷ rest) puts number k (λ path e. let same = place_is number number k at path rest e in omega arith)) ms all.1,
        )
    nested_at_puts Q R number at puts (suc k) place is (more_messages m ms) all = (
      message_keeps (below Q number place) (below R number place)
          (past Q R (number ∷ pos at ∷ rest) puts number place (λ path e. let same = place_is number number place at path rest e in omega arith)) m all.0,
      nested_at_puts Q R number at puts k (place + 1) (omega arith) ms all.1,
    )

    nested_puts : (Q R : Said) (number place : ℤ) → Puts new Q R (number ∷ place ∷ rest) → (ms : MessageContents)
        → InMessages Q (pos 3) 0 ms → InMessages R (pos 3) 0 (put_nested f number place ms)
    nested_puts Q R number (negsuc n) puts ms all =
        messages_keep Q R (pos 3) 0 (λ k far. past Q R (number ∷ negsuc n ∷ rest) puts (pos 3) k (λ path e. cc)) ms all
    nested_puts Q R number (pos at) puts ms all = by (int_eq number (pos 3)) refl
      where
        by : (b : Bool) → int_eq number (pos 3) ≡ b → InMessages R (pos 3) 0 (cond b (nested_at at f ms) ms)
        by true e = nested_at_puts Q R (pos 3) at (subst (λ n. Puts new Q R (n ∷ pos at ∷ rest)) ((Decides-int_eq number (pos 3)).0 e) puts) at 0 (omega arith) ms all
        by false e = messages_keep Q R (pos 3) 0
            (λ k far. past Q R (number ∷ pos at ∷ rest) puts (pos 3) k
            (λ path same. cc ((Decides-int_eq number (pos 3)).1 (sym (number_is (pos 3) number (pos at) k path rest same)), e))) ms all

  message_puts : (path : List ℤ) (Q R : Said) → Puts new Q R path → (m : MessageContent) → InMessage Q m → InMessage R (message_put path new m)
  message_puts [] Q R puts (message name fields extensions nested enums ranges oneofs options reserved names) all =
      (parts_keep Q R (above Q R puts) fields extensions enums ranges oneofs options (Some new) (puts.fresh scopes.Message) all.0, messages_keep Q R (pos 3) 0 (above Q R puts (pos 3)) nested all.1)
  message_puts (number ∷ []) Q R puts (message name fields extensions nested enums ranges oneofs options reserved names) all = (
    parts_keep Q R (short Q R number puts) fields extensions enums ranges oneofs options options (own_stay scopes.Message Q R (number ∷ []) puts (goes_on number []) options all.0.own) all.0,
    messages_keep Q R (pos 3) 0 (short Q R number puts (pos 3)) nested all.1,
  )
  message_puts (number ∷ place ∷ rest) Q R puts (message name fields extensions nested enums ranges oneofs options reserved names) all =
      let parts = all.0 in (
        record {
          field = in_puts InField field_keeps (field_put rest new) rest (field_puts rest) Q R 2 number place puts fields parts.field;
          extension = in_puts InField field_keeps (field_put rest new) rest (field_puts rest) Q R 6 number place puts extensions parts.extension;
          enum = in_puts InEnum enum_keeps (enum_put rest new) rest (enum_puts rest) Q R 4 number place puts enums parts.enum;
          range = in_puts InRange range_keeps (range_put rest new) rest (range_puts rest) Q R 5 number place puts ranges parts.range;
          oneof = in_puts InOneof oneof_keeps (oneof_put rest new) rest (oneof_puts rest) Q R 8 number place puts oneofs parts.oneof;
          own = own_stay scopes.Message Q R (number ∷ place ∷ rest) puts (goes_on number (place ∷ rest)) options parts.own;
        },
        nested_puts (message_put rest new) rest (message_puts rest) Q R number place puts nested all.1,
      )

  -- ---- files
  pub file_puts : (path : List ℤ) (Q R : Said) → Puts new Q R path → (f : FileContent) → InFile Q f → InFile R (file_put path new f)
  file_puts [] Q R puts f all = declared_keep Q R (above Q R puts) f (Some new) (puts.fresh scopes.File) all
  file_puts (number ∷ []) Q R puts f all = declared_keep Q R (short Q R number puts) f f.options (own_stay scopes.File Q R (number ∷ []) puts (goes_on number []) f.options all.own) all
  file_puts (number ∷ place ∷ rest) Q R puts f all = record {
    message_type = in_puts InMessage message_keeps (message_put rest new) rest (message_puts rest) Q R 4 number place puts f.message_type all.message_type;
    enum_type = in_puts InEnum enum_keeps (enum_put rest new) rest (enum_puts rest) Q R 5 number place puts f.enum_type all.enum_type;
    service = in_puts InService service_keeps (service_put rest new) rest (service_puts rest) Q R 6 number place puts f.service all.service;
    extension = in_puts InField field_keeps (field_put rest new) rest (field_puts rest) Q R 7 number place puts f.extension all.extension;
    own = own_stay scopes.File Q R (number ∷ place ∷ rest) puts (goes_on number (place ∷ rest)) f.options all.own;
  }

-- the path of a location
pub path_keeps : (Q : Said) (k : ℕ) (path : List ℤ) (f : FileContent) → InFile Q f → InFile Q (path_put k path f)
path_keeps Q k path f all = record {
  message_type = all.message_type;
  enum_type = all.enum_type;
  service = all.service;
  extension = all.extension;
  own = all.own;
}
