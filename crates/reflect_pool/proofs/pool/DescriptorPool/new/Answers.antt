-- A pool without files knows nothing, and nothing is declared in it.
use Rattle.std.proofs.Common.{◌≡◌, ◌<◌, ℕ, List, [], length, map, ap, sym, subst, ◌∙◌, arith, rules}
use Rattle.reflect_declarations.specs.Batches.{batch_declarations}
use Rattle.reflect_known.specs.DeclaredNames.{with_names}
use Rattle.reflect_known.specs.KnownNames.{nothing_before, known_of_files}
use Rattle.reflect_tables.specs.Names.{Sort, messages, enums, extensions, services, names_of, message_name, enum_name, extension_name, service_name}
use Rattle.reflect_tables.specs.Views.{file_of, record_of, record_file, message_of, enum_of, extension_of, service_of, pool_of}
use Rattle.reflect_tables.specs.declared.tables.Tables.{Tables}
use Rattle.reflect_pool.specs.AtPaths.{HaveRecords}
use Rattle.reflect_pool.specs.Stored.{AreStored}
use Rattle.reflect_pool.proofs.pool.DescriptorPool.new.Goals as goal

none_in : {X : Type 0} (l : List X) (i : ℕ) → l ≡ [] → i < length l → ⊥
none_in {X} l i none lt = let count = ap (λ (k : List X). length k) none in omega (arith, count, lt)

module _ (t : Tables) (ms : t.messages.items ≡ []) (es : t.enums.items ≡ [])
    (xs : t.extensions.items ≡ []) (ss : t.services.items ≡ []) where
  none_named : (s : Sort) → names_of (pool_of t) s ≡ []
  none_named messages = ap (λ l. map message_name (map message_of l)) ms
  none_named enums = ap (λ l. map enum_name (map enum_of l)) es
  none_named extensions = ap (λ l. map extension_name (map extension_of l)) xs
  none_named services = ap (λ l. map service_name (map service_of l)) ss

  none_recorded : HaveRecords (pool_of t)
  none_recorded =
      let no_message = λ (i : ℕ). none_in (map message_of t.messages.items) i (ap (map message_of) ms) in
      let no_enum = λ (i : ℕ). none_in (map enum_of t.enums.items) i (ap (map enum_of) es) in
      let no_service = λ (i : ℕ). none_in (map service_of t.services.items) i (ap (map service_of) ss) in
      record {
        messages = λ i lt. absurd (no_message i lt);
        fields = λ i j lt less. absurd (no_message i lt);
        oneofs = λ i j lt less. absurd (no_message i lt);
        enums = λ i lt. absurd (no_enum i lt);
        values = λ i j lt less. absurd (no_enum i lt);
        extensions = λ i lt. absurd (none_in (map extension_of t.extensions.items) i (ap (map extension_of) xs) lt);
        services = λ i lt. absurd (no_service i lt);
        methods = λ i j lt less. absurd (no_service i lt);
      }

pub invariant_of-result : goal.invariant_of-result
invariant_of-result c =
    let t = c.new.result in
    let made = c.new.ensures in
    let none : map record_of t.files.items ≡ [] = ap (map record_of) made.files in
    record {
      pooled = search rules;
      named = search rules;
      below = search rules;
      files = search rules;
      numbers = search rules;
      imports = search rules;
      to_imports = search rules;
      known = c.new-4.ensures.known ∙ sym (ap known_of_files none);
      headers = ap (map file_of) made.files ∙ sym (ap (map record_file) none);
      entries =
          λ s. none_named t made.messages made.enums made.extensions made.services s
          ∙ sym (ap (λ rs. with_names s [] (batch_declarations nothing_before 0 rs)) none);
      stored =
          subst (λ rs. AreStored rs t.messages.items) (sym none)
          (subst (AreStored []) (sym made.messages) (record { ranges = tt; entries = tt }));
      placed = none_recorded t made.messages made.enums made.extensions made.services;
    }
