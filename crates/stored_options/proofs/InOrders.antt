-- Options that a source gives settle to the same, along the same paths, in whatever batches the files
-- come: what it wrote, and those of a map's entries.
use Rattle.std.proofs.Common.{◌≡◌, ◌∙◌, inl, inr, ℕ, ℤ, List, ◌++◌, map, ap, sym, subst}
use Rattle.descriptor_records.specs.Content.{FileContent, OptionContent, OptionsContent, Text, option_view, options_view}
use Rattle.descriptor_records.specs.declared.options.Options.{Options}
use Rattle.message_view.specs.Sound.{IsSound}
use Rattle.stored_options.specs.SetOptions.{LeadAlike, Leads}
use Rattle.stored_options.proofs.OneMessage.{all_one}
use Rattle.stored_options.specs.Standing.{HaveOneEnd, StandsIn}
use Rattle.option_parts.specs.OptionTypes.{CanRead, type_name}
use Rattle.option_parts.specs.declared.option_scope.OptionScope.{OptionScope}
use Rattle.option_setter.specs.declared.option_setter.NameScope.{NameScope}
use Rattle.stored_options.specs.NamedNumbers.{numbers_named}
use Rattle.plain_records.specs.SaidOptions.{IsSettled}
use Rattle.plain_records.specs.SourceOptions.{AreAsRead, AreGiven, HaveSmallNumbers, as_read, of_entries}
use Rattle.protobuf_model.specs.Bytes.{bytes_of}
use Rattle.protobuf_model.specs.Types.{Name}
use Rattle.protobuf_model.specs.Values.{nothing}
use Rattle.reflect_options.specs.Settled.{Settles}
use Rattle.reflect_tables.specs.Types.{PoolType}
use Rattle.schema_view.specs.Views.{View, view_of}
use Rattle.stored_options.proofs.Unlocated.{one_view}
use Rattle.stored_options.proofs.Linking.{said_as_before}
use Rattle.text_model.specs.Schemas.{Schema}
use Rattle.text_view.specs.SourceNames.{HaveOwnNames}
use Rattle.texts_view.specs.Named.{schema_in}
use Rattle.stored_options.proofs.InTheEnd.{SetAndWritten, set_in_the_end, unread}
use Rattle.stored_options.proofs.Unwritten.{unwritten_again}

-- by one schema options set one message, which its type writes in one way
one_writing : (w : Schema) (a b : Leads) → LeadAlike a b → (t : Name) (os : List OptionContent) (bytes others : List ℕ) (paths ways : List (List ℤ))
    → SetAndWritten w a t os bytes paths → SetAndWritten w b t os others ways → (bytes ≡ others) × (paths ≡ ways)
one_writing w a b alike t os bytes others paths ways (m, written, sets) (n, also, more) =
    let r = all_one w a b alike t os nothing m n paths ways sets more in
    let same : bytes_of w.types t m ≡ bytes_of w.types t n = ap (bytes_of w.types t) r.0 in
    (written ∙ same ∙ sym also, r.1)

module _ (scope : OptionScope) (s t : NameScope) (o x settled other : Options) (paths ways : List (List ℤ))
    (sound : IsSound s.pool.now) (and_sound : IsSound t.pool.now) (names : HaveOwnNames s.pool.now) (and_names : HaveOwnNames t.pool.now)
    (can : CanRead s.pool.now scope) (and_can : CanRead t.pool.now scope) (given : AreAsRead scope (options_view o)) (same : options_view x ≡ options_view o)
    (is : Settles scope s o (options_view settled) paths) (also : Settles scope t x (options_view other) ways) where
  and_given : AreAsRead scope (options_view x)
  and_given = subst (AreAsRead scope) (sym same) given

  -- both say what linking read of the one source
  said_alike : (settled.packed ≡ other.packed) × (settled.allow_alias ≡ other.allow_alias) × (settled.map_entry ≡ other.map_entry)
  said_alike =
      let one = said_as_before scope s o settled paths sound names can given is in
      let two = said_as_before scope t x other ways and_sound and_names and_can and_given also in (
        one.0 ∙ ap (λ (c : OptionsContent). c.packed) (sym same) ∙ sym two.0,
        one.1 ∙ ap (λ (c : OptionsContent). c.allow_alias) (sym same) ∙ sym two.1,
        one.2 ∙ ap (λ (c : OptionsContent). c.map_entry) (sym same) ∙ sym two.2,
      )

  -- and nothing is left of what it wrote
  left_alike : map option_view settled.uninterpreted_option.items ≡ map option_view other.uninterpreted_option.items
  left_alike = ap (λ (c : OptionsContent). c.uninterpreted_option) is.1.4.0 ∙ sym (ap (λ (c : OptionsContent). c.uninterpreted_option) also.1.4.0)

  record_alike : settled.encoded.items ≡ other.encoded.items → options_view settled ≡ options_view other
  record_alike bytes =
      let packed : settled.packed ≡ other.packed = said_alike.0 in
      let alias : settled.allow_alias ≡ other.allow_alias = said_alike.1 in
      let entry : settled.map_entry ≡ other.map_entry = said_alike.2 in
      (λ i. record { encoded = bytes i; packed = packed i; allow_alias = alias i; map_entry = entry i; uninterpreted_option = left_alike i })

  -- those of a map's entries, in which nothing is left to settle
  entries_alike : options_view o ≡ of_entries → (options_view settled ≡ options_view other) × (paths ≡ ways)
  entries_alike entries =
      let left : IsSettled (options_view o) = ap (λ (c : OptionsContent). c.uninterpreted_option) entries in
      let also_left : IsSettled (options_view x) = ap (λ (c : OptionsContent). c.uninterpreted_option) same ∙ left in
      let one = unwritten_again scope s o settled paths sound can given left is in
      let two = unwritten_again scope t x other ways and_sound and_can and_given also_left also in
      (one.0 ∙ sym same ∙ sym two.0, one.1 ∙ sym two.1)

  -- what the source wrote
  module _ (batches others : List (List FileContent)) (p q : PoolType) (file name : Text) (ends : HaveOneEnd batches others) (here : StandsIn batches p s file name) (there : StandsIn others q t file name)
      (alike : LeadAlike (numbers_named s) (numbers_named t)) (small : HaveSmallNumbers (options_view o)) where
    written_alike : options_view o ≡ as_read scope (options_view o).uninterpreted_option → (options_view settled ≡ options_view other) × (paths ≡ ways)
    written_alike wrote =
        let wrote_x : options_view x ≡ as_read scope (options_view x).uninterpreted_option = subst (λ (c : OptionsContent). c ≡ as_read scope c.uninterpreted_option) (sym same) wrote in
        let small_x : HaveSmallNumbers (options_view x) = subst HaveSmallNumbers (sym same) small in
        let views : view_of ends.last ≡ view_of ends.after = sym (one_view (ends.more ++ batches) (ends.further ++ others) ends.after ends.last ends.plain ends.same ends.built ends.also) in
        let one = set_in_the_end batches ends.more ends.after ends.built p s file name here scope o settled paths sound can wrote small is in
        let two = set_in_the_end others ends.further ends.last ends.also q t file name there scope x other ways and_sound and_can wrote_x small_x also in
        let in_one = subst (λ (v : View). SetAndWritten (schema_in v unread) (numbers_named t) (type_name scope) (options_view x).uninterpreted_option other.encoded.items ways) views two in
        let of_one = subst (λ (c : OptionsContent). SetAndWritten (schema_in (view_of ends.after) unread) (numbers_named t) (type_name scope) c.uninterpreted_option other.encoded.items ways) same in_one in
        let r = one_writing (schema_in (view_of ends.after) unread) (numbers_named s) (numbers_named t) alike (type_name scope) (options_view o).uninterpreted_option settled.encoded.items other.encoded.items paths ways one of_one in
        (record_alike r.0, r.1)

pub given_alike : (batches others : List (List FileContent)) (p q : PoolType) (s t : NameScope) (file name : Text) (scope : OptionScope) (o x settled other : Options) (paths ways : List (List ℤ))
    → HaveOneEnd batches others → StandsIn batches p s file name → StandsIn others q t file name → LeadAlike (numbers_named s) (numbers_named t)
    → IsSound p → IsSound q → HaveOwnNames p → HaveOwnNames q → CanRead p scope → CanRead q scope → AreGiven scope (options_view o) → options_view x ≡ options_view o
    → Settles scope s o (options_view settled) paths → Settles scope t x (options_view other) ways → (options_view settled ≡ options_view other) × (paths ≡ ways)
given_alike batches others p q s t file name scope o x settled other paths ways ends here there alike sound and_sound names and_names can and_can given same is also =
    let sound_s : IsSound s.pool.now = subst IsSound (sym here.in_pool) sound in
    let sound_t : IsSound t.pool.now = subst IsSound (sym there.in_pool) and_sound in
    let names_s : HaveOwnNames s.pool.now = subst HaveOwnNames (sym here.in_pool) names in
    let names_t : HaveOwnNames t.pool.now = subst HaveOwnNames (sym there.in_pool) and_names in
    let can_s : CanRead s.pool.now scope = subst (λ (r : PoolType). CanRead r scope) (sym here.in_pool) can in
    let can_t : CanRead t.pool.now scope = subst (λ (r : PoolType). CanRead r scope) (sym there.in_pool) and_can in
    elim given.0 [
      | inl wrote ↦ written_alike scope s t o x settled other paths ways sound_s sound_t names_s names_t can_s can_t given.0 same is also batches others p q file name ends here there alike given.1 wrote
      | inr entries ↦ entries_alike scope s t o x settled other paths ways sound_s sound_t names_s names_t can_s can_t given.0 same is also entries.1
    ]
