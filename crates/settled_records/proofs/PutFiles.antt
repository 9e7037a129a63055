-- What the contents of messages and files tell of their entities where options are put at a path.
use Rattle.std.proofs.Common.{◌≡◌, ◌+◌, ◌++◌, ℕ, zero, suc, ℤ, pos, negsuc, Bool, true, false, cond, List, [], ◌∷◌, ap, refl, sym, subst, arith}
use Rattle.std.specs.Ordering.{int_eq}
use Rattle.std.proofs.lemmas.Bool.Decides.{Decides-int_eq}
use Rattle.std.specs.List.{AllZip}
use Rattle.descriptor_records.specs.Content.{EnumContent, ExtensionRangeContent, FieldContent, FileContent, MessageContent, message, MessageContents, more_messages, no_messages, messages_of, OneofContent, OptionsContent, ServiceContent}
use Rattle.option_parts.specs.declared.option_scope.OptionScope.TheVariants as scopes
use Rattle.reflect_declarations.specs.Declarations.{each, entry}
use Rattle.reflect_growth.specs.Put.{enum_put, field_put, file_put, message_put, nested_at, oneof_put, put_in, put_nested, range_put, service_put}
use Rattle.reflect_pool.proofs.Grown.{all_through}
use Rattle.reflect_scope.specs.Means.{join}
use Rattle.settled_records.proofs.OwnPaths.{Beyond, From, enum_whole, extension_whole, field_whole, message_whole, messages_group, oneof_whole, range_whole, service_whole}
use Rattle.settled_records.proofs.PutTold.{IsPut, Puts, enum_told, extension_told, field_told, in_told, into_entry, no_steps, one_step, oneof_told, own_told, past_entry, past_none, past_other, past_rest, past_short, range_told, service_told, short_list, zip_append}
use Rattle.settled_records.proofs.Told.{Told, enum_tells, extension_tells, field_tells, file_tells, message_tells, messages_tell, oneof_tells, range_tells, service_tells, text_in}

-- what the parts of a message tell of, in one list behind another
abbrev parts_of : List ℤ → List ℕ → List ExtensionRangeContent → List FieldContent → MessageContents → List EnumContent → List FieldContent → List OneofContent → List Told
parts_of base n ranges fields nested enums extensions oneofs =
    each (range_tells base n) 0 ranges ++ (each (field_tells base n) 0 fields ++ (messages_tell base (pos 3) n 0 nested ++ (each (enum_tells base (pos 4) n) 0 enums
    ++ (each (extension_tells base (pos 6) n) 0 extensions ++ each (oneof_tells base n) 0 oneofs))))

-- and what a file's declarations do
abbrev declared_of : List ℕ → MessageContents → List EnumContent → List ServiceContent → List FieldContent → List Told
declared_of n ms es ss xs =
    messages_tell [] (pos 4) n 0 ms ++ (each (enum_tells [] (pos 5) n) 0 es ++ (each (service_tells n) 0 ss ++ each (extension_tells [] (pos 7) n) 0 xs))

module _ (o : OptionsContent) where
  -- ---- messages
  -- a list of messages, of which each comes to what is told of it where this is put in it
  module _ (base : List ℤ) (scope : List ℕ) (f : MessageContent → MessageContent) (rest : List ℤ)
      (there : (k : ℕ) (m : MessageContent) → Puts o (entry base (pos 3) k ++ rest) (message_tells (entry base (pos 3) k) scope m) (message_tells (entry base (pos 3) k) scope (f m))) where
    nested_at_told : (at n k : ℕ) → k + n ≡ at → (ms : MessageContents) → Puts o (base ++ (pos 3 ∷ pos at ∷ rest)) (messages_tell base (pos 3) scope k ms) (messages_tell base (pos 3) scope k (nested_at n f ms))
    nested_at_told at n k is no_messages = tt
    nested_at_told at zero k is (more_messages m ms) =
        let here : k ≡ at = omega arith in
        zip_append (IsPut o (base ++ (pos 3 ∷ pos at ∷ rest))) (message_tells (entry base (pos 3) k) scope m) (message_tells (entry base (pos 3) k) scope (f m))
        (messages_tell base (pos 3) scope (k + 1) ms) (messages_tell base (pos 3) scope (k + 1) ms)
        (subst (λ (j : ℕ). Puts o (base ++ (pos 3 ∷ pos j ∷ rest)) (message_tells (entry base (pos 3) k) scope m) (message_tells (entry base (pos 3) k) scope (f m))) here
        (into_entry o base (pos 3) k rest (message_tells (entry base (pos 3) k) scope m) (message_tells (entry base (pos 3) k) scope (f m)) (there k m)))
        (past_rest o base (pos 3) (k + 1) at rest (messages_tell base (pos 3) scope (k + 1) ms) (omega arith) (messages_group base (pos 3) scope (k + 1) ms))
    nested_at_told at (suc n) k is (more_messages m ms) =
        zip_append (IsPut o (base ++ (pos 3 ∷ pos at ∷ rest))) (message_tells (entry base (pos 3) k) scope m) (message_tells (entry base (pos 3) k) scope m)
        (messages_tell base (pos 3) scope (k + 1) ms) (messages_tell base (pos 3) scope (k + 1) (nested_at n f ms))
        (past_entry o base (pos 3) k at rest (message_tells (entry base (pos 3) k) scope m) (λ same. omega arith) (message_whole (entry base (pos 3) k) scope m))
        (nested_at_told at n (k + 1) (omega arith) ms)

    nested_told : (number place : ℤ) (ms : MessageContents) → Puts o (base ++ (number ∷ place ∷ rest)) (messages_tell base (pos 3) scope 0 ms) (messages_tell base (pos 3) scope 0 (put_nested f number place ms))
    nested_told number (negsuc n) ms = past_none o base (pos 3) number n rest (messages_tell base (pos 3) scope 0 ms) (messages_group base (pos 3) scope 0 ms)
    nested_told number (pos at) ms = by (int_eq number (pos 3)) refl where
      by : (b : Bool) → int_eq number (pos 3) ≡ b → Puts o (base ++ (number ∷ pos at ∷ rest)) (messages_tell base (pos 3) scope 0 ms) (messages_tell base (pos 3) scope 0 (cond b (nested_at at f ms) ms))
      by true e =
          subst (λ (n : ℤ). Puts o (base ++ (n ∷ pos at ∷ rest)) (messages_tell base (pos 3) scope 0 ms) (messages_tell base (pos 3) scope 0 (nested_at at f ms))) (sym ((Decides-int_eq number (pos 3)).0 e))
          (nested_at_told at at 0 (omega arith) ms)
      by false e =
          past_other o base (pos 3) number (pos at) rest (messages_tell base (pos 3) scope 0 ms) (λ same. cc ((Decides-int_eq number (pos 3)).1 (sym same), e)) (messages_group base (pos 3) scope 0 ms)

  -- messages behind a path of fewer than two steps
  short_messages : (base path : List ℤ) (tag : ℤ) (scope : List ℕ) → ((tag place : ℤ) (more : List ℤ) → tag ∷ place ∷ more ≡ path → ⊥) → (ms : MessageContents)
      → Puts o (base ++ path) (messages_tell base tag scope 0 ms) (messages_tell base tag scope 0 ms)
  short_messages base path tag scope short ms =
      past_short o base path (messages_tell base tag scope 0 ms) short
      (all_through (From base tag 0) (Beyond base) (messages_tell base tag scope 0 ms) (λ (t : Told) (f : From base tag 0 t). (tag, f.0, f.1, f.3)) (messages_group base tag scope 0 ms).from)

  -- and all parts of a message
  parts_short : (base path : List ℤ) → ((tag place : ℤ) (more : List ℤ) → tag ∷ place ∷ more ≡ path → ⊥) → (n : List ℕ) (ranges : List ExtensionRangeContent) (fields : List FieldContent)
      (nested : MessageContents) (enums : List EnumContent) (extensions : List FieldContent) (oneofs : List OneofContent) → Puts o (base ++ path) (parts_of base n ranges fields nested enums extensions oneofs) (parts_of base n ranges fields nested enums extensions oneofs)
  parts_short base path short n ranges fields nested enums extensions oneofs =
      let R = IsPut o (base ++ path) in
      zip_append R _ _ _ _ (short_list o base path (pos 5) (range_tells base n) (range_whole base n) short ranges)
      (zip_append R _ _ _ _ (short_list o base path (pos 2) (field_tells base n) (field_whole base n) short fields)
      (zip_append R _ _ _ _ (short_messages base path (pos 3) n short nested)
      (zip_append R _ _ _ _ (short_list o base path (pos 4) (enum_tells base (pos 4) n) (enum_whole base (pos 4) n) short enums)
      (zip_append R _ _ _ _ (short_list o base path (pos 6) (extension_tells base (pos 6) n) (extension_whole base (pos 6) n) short extensions)
      (short_list o base path (pos 8) (oneof_tells base n) (oneof_whole base n) short oneofs)))))

  message_told : (base : List ℤ) (scope : List ℕ) (rest : List ℤ) (m : MessageContent) → Puts o (base ++ rest) (message_tells base scope m) (message_tells base scope (message_put rest o m))
  message_told base scope [] (message name fields extensions nested enums ranges oneofs options reserved names) =
      let n = join scope (text_in name) in
      (own_told o scopes.Message base (pos 7) n options [], parts_short base [] no_steps n ranges fields nested enums extensions oneofs)
  message_told base scope (number ∷ []) (message name fields extensions nested enums ranges oneofs options reserved names) =
      let n = join scope (text_in name) in
      (own_told o scopes.Message base (pos 7) n options (number ∷ []), parts_short base (number ∷ []) (one_step number) n ranges fields nested enums extensions oneofs)
  message_told base scope (number ∷ place ∷ rest) (message name fields extensions nested enums ranges oneofs options reserved names) =
      let n = join scope (text_in name) in
      let R = IsPut o (base ++ (number ∷ place ∷ rest)) in (
        own_told o scopes.Message base (pos 7) n options (number ∷ place ∷ rest),
        zip_append R _ _ _ _ (in_told o base 5 (range_tells base n) (range_whole base n) (range_put rest o) rest (range_told o base n rest) number place ranges)
            (zip_append R _ _ _ _ (in_told o base 2 (field_tells base n) (field_whole base n) (field_put rest o) rest (field_told o base n rest) number place fields)
            (zip_append R _ _ _ _ (nested_told base n (message_put rest o) rest (λ k m. message_told (entry base (pos 3) k) n rest m) number place nested)
            (zip_append R _ _ _ _ (in_told o base 4 (enum_tells base (pos 4) n) (enum_whole base (pos 4) n) (enum_put rest o) rest (enum_told o base (pos 4) n rest) number place enums)
            (zip_append R _ _ _ _ (in_told o base 6 (extension_tells base (pos 6) n) (extension_whole base (pos 6) n) (field_put rest o) rest (extension_told o base (pos 6) n rest) number place extensions)
            (in_told o base 8 (oneof_tells base n) (oneof_whole base n) (oneof_put rest o) rest (oneof_told o base n rest) number place oneofs))))),
      )

  -- ---- files
  -- a file's message types, one after another
  abbrev type_tells : List ℕ → ℕ → MessageContent → List Told
  type_tells scope k m = message_tells (entry [] (pos 4) k) scope m

  types_tell : (scope : List ℕ) (k : ℕ) (ms : List MessageContent) → messages_tell [] (pos 4) scope k (messages_of ms) ≡ each (type_tells scope) k ms
  types_tell scope k [] = refl
  types_tell scope k (m ∷ ms) = ap (λ (ts : List Told). type_tells scope k m ++ ts) (types_tell scope (k + 1) ms)

  types_told : (scope : List ℕ) (rest : List ℤ) (number place : ℤ) (ms : List MessageContent)
      → Puts o (number ∷ place ∷ rest) (messages_tell [] (pos 4) scope 0 (messages_of ms)) (messages_tell [] (pos 4) scope 0 (messages_of (put_in 4 (message_put rest o) number place ms)))
  types_told scope rest number place ms =
      let after = put_in 4 (message_put rest o) number place ms in
      let listed : Puts o (number ∷ place ∷ rest) (each (type_tells scope) 0 ms) (each (type_tells scope) 0 after) =
      in_told o [] 4 (type_tells scope) (λ k m. message_whole (entry [] (pos 4) k) scope m) (message_put rest o) rest (λ k m. message_told (entry [] (pos 4) k) scope rest m) number place ms in
      subst (λ (ts : List Told). Puts o (number ∷ place ∷ rest) ts (messages_tell [] (pos 4) scope 0 (messages_of after))) (sym (types_tell scope 0 ms))
      (subst (λ (us : List Told). Puts o (number ∷ place ∷ rest) (each (type_tells scope) 0 ms) us) (sym (types_tell scope 0 after)) listed)

  declared_short : (path : List ℤ) → ((tag place : ℤ) (more : List ℤ) → tag ∷ place ∷ more ≡ path → ⊥) → (n : List ℕ) (ms : MessageContents) (es : List EnumContent) (ss : List ServiceContent)
      (xs : List FieldContent) → Puts o path (declared_of n ms es ss xs) (declared_of n ms es ss xs)
  declared_short path short n ms es ss xs =
      let R = IsPut o path in
      zip_append R _ _ _ _ (short_messages [] path (pos 4) n short ms)
      (zip_append R _ _ _ _ (short_list o [] path (pos 5) (enum_tells [] (pos 5) n) (enum_whole [] (pos 5) n) short es)
      (zip_append R _ _ _ _ (short_list o [] path (pos 6) (service_tells n) (service_whole n) short ss) (short_list o [] path (pos 7) (extension_tells [] (pos 7) n) (extension_whole [] (pos 7) n) short xs)))

  pub file_put_told : (path : List ℤ) (f : FileContent) → AllZip (IsPut o path) (file_tells f) (file_tells (file_put path o f))
  file_put_told [] f =
      let n = text_in f.package_name in
      (own_told o scopes.File [] (pos 8) n f.options [], declared_short [] no_steps n (messages_of f.message_type) f.enum_type f.service f.extension)
  file_put_told (number ∷ []) f =
      let n = text_in f.package_name in
      (own_told o scopes.File [] (pos 8) n f.options (number ∷ []), declared_short (number ∷ []) (one_step number) n (messages_of f.message_type) f.enum_type f.service f.extension)
  file_put_told (number ∷ place ∷ rest) f =
      let n = text_in f.package_name in
      let R = IsPut o (number ∷ place ∷ rest) in (
        own_told o scopes.File [] (pos 8) n f.options (number ∷ place ∷ rest),
        zip_append R _ _ _ _ (types_told n rest number place f.message_type)
            (zip_append R _ _ _ _ (in_told o [] 5 (enum_tells [] (pos 5) n) (enum_whole [] (pos 5) n) (enum_put rest o) rest (enum_told o [] (pos 5) n rest) number place f.enum_type)
            (zip_append R _ _ _ _ (in_told o [] 6 (service_tells n) (service_whole n) (service_put rest o) rest (service_told o n rest) number place f.service)
            (in_told o [] 7 (extension_tells [] (pos 7) n) (extension_whole [] (pos 7) n) (field_put rest o) rest (extension_told o [] (pos 7) n rest) number place f.extension))),
      )
