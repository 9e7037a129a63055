-- What stays under numbers that are not read, record by record.
use Rattle.std.proofs.Common.{◌≡◌, ◌≢◌, ◌⊎◌, inl, inr, Result, Ok, Err, IfOk, ℕ, ◌==◌, true, cond, ◌≤◌, List, [], ◌∷◌, ◌++◌, None, Some, refl, sym, ap, ◌∙◌, subst, arith}
use Rattle.std.specs.Borrow.{Bor}
use Rattle.std.specs.List.{AllByRecursion}
use Rattle.std.proofs.lemmas.List.Elements.{filter-append}
use Rattle.reflect_pool.specs.FieldsLeft.{field_type}
use Rattle.reflect_pool.specs.declared.message.MessageDescriptor.{MessageDescriptor}
use Rattle.reflect_pool.specs.declared.field.FieldDescriptor.{FieldDescriptor}
use Rattle.reflect_wire.specs.Reads.{Fronts}
use Rattle.reflect_wire.specs.Records.{Payload, SpellsRecords}
use Rattle.reflect_wire.specs.Views.{records_of}
use Rattle.reflect_wire.specs.declared.wire_key.WireKey.{WireKey}
use Rattle.reflect_wire.specs.declared.wire_error.WireError.{WireError}
use Rattle.reflect_entries.specs.Entries.{IsAscending, value_at}
use Rattle.reflect_pool.specs.declared.extension.ExtensionDescriptor.{ExtensionDescriptor}
use Rattle.reflect_scalar.specs.FieldTypes.{field_pool, extension_pool, extension_type}
use Rattle.reflect_message.specs.Contents.{Content, nothing}
use Rattle.reflect_message.specs.Known.{known_field, known_extension}
use Rattle.reflect_decode.specs.Accepts.{Accepts, AcceptsField, AcceptsMessage}
use Rattle.reflect_decode.specs.Fields.{HoldFields, HoldExtensions}
use Rattle.reflect_decode.specs.Keeps.{numbered, KeepsUndeclared}
use Rattle.reflect_decode.specs.Merging.{IsBody, IsRun, run_records}
use Rattle.reflect_decode.specs.Messages.{Takes}
use Rattle.reflect_decode.specs.Ordered.{AreNumbered, Ascend, IsOrdered, last}
use Rattle.reflect_message.specs.Declares.{Owns, OwnsExtension, NoField}
use Rattle.reflect_message.specs.Oneofs.{AreChosen, MakesRoom, Chooses, Unsets, sibling}
use Rattle.reflect_message.specs.Held.{Same}
use Rattle.reflect_decode.specs.Spares.{NoExtension, IsSpared, ReadsMember, SparesFields, SparesExtensions, HoldsRead, Merges}
use Rattle.reflect_decode.specs.Suits.{Suits, HeldSuits, SuitsBelow}
use Rattle.reflect_decode.specs.Taking.{Leaves}
use Rattle.reflect_message.specs.Names.{Value}
use Rattle.reflect_message.proofs.Choosing.{is_or_not, in_oneof, room_keeps, room_chosen}
use Rattle.reflect_decode.proofs.Accepting.{run_of_extension, run_of_others}
use Rattle.reflect_decode.proofs.Extending.{extended_none, extended_both, extended_apart, extended_run, extended_empty}
use Rattle.reflect_decode.proofs.Filling.{filled_none, filled_both, filled_apart, filled_run, filled_empty}
use Rattle.reflect_decode.proofs.InOrder.{Orders, extension_in_order, field_in_order, others_in_order}
use Rattle.reflect_decode.proofs.Joining.{Joins}
use Rattle.reflect_decode.proofs.Keeping.{two_empty, keeps_none, keeps_more, keeps_declared, field_declared}
use Rattle.reflect_decode.proofs.Ordering.{Holds, numbered_put, nothing_ordered}
use Rattle.reflect_decode.proofs.Running.{whole_body}
use Rattle.reflect_decode.proofs.Suiting.{nothing_suits}

run_read : (n : ℕ) (run : List Payload × Payload) → numbered n (run_records n run) ≢ []
run_read n ([], p) e = let is : (n == n) ≡ true = grind (arith) in absurd (cc (e, ap (λ b. cond {A = List (ℕ × Payload)} b ((n, p) ∷ []) []) is))
run_read n (q ∷ ps, p) e =
    let is : (n == n) ≡ true = grind (arith) in
    let more = numbered n (run_records n (ps, p)) in
    absurd (cc (e, ap (λ b. cond {A = List (ℕ × Payload)} b ((n, q) ∷ more) more) is))

-- a number that a run has not is another
pub other_run : (k n : ℕ) (run : List Payload × Payload) → numbered k (run_records n run) ≡ [] → k ≢ n
other_run k n run e is = run_read n run (subst (λ k. numbered k (run_records n run) ≡ []) is e)

module _ (k : ℕ) (rs ts : List (ℕ × Payload)) where
  both_unread : numbered k (rs ++ ts) ≡ [] → (numbered k rs ≡ []) × (numbered k ts ≡ [])
  both_unread e = two_empty (numbered k rs) (numbered k ts) (sym (filter-append (λ r. r.0 == k) rs ts) ∙ e)

  both_spared : (P : Type 0) → IsSpared (rs ++ ts) k P → IsSpared rs k P × IsSpared ts k P
  both_spared P (inl e) = let both = both_unread e in (inl both.0, inl both.1)
  both_spared P (inr nowhere) = (inr nowhere, inr nowhere)

module _ (m : MessageDescriptor) where
  pub extensions_more : (a b c : List (ℕ × Value)) (rs ts : List (ℕ × Payload)) → SparesExtensions m a b rs → SparesExtensions m b c ts → SparesExtensions m a c (rs ++ ts)
  extensions_more a b c rs ts h k = record { spared = λ n e. let both = both_spared n rs ts (NoExtension m n) e in k.spared n both.1 ∙ h.spared n both.0 }

  pub extensions_run : (x : ExtensionDescriptor) → OwnsExtension m x → (old new : List (ℕ × Value)) (n : ℕ) → (extension_type x).number ≡ n → (run : List Payload × Payload) → ((k : ℕ) → k ≢ n → Same old new k) → SparesExtensions m old new (run_records n run)
  extensions_run x owns old new n is run h = record { spared = λ k e. h k (other k e) } where
    other : (k : ℕ) → IsSpared (run_records n run) k (NoExtension m k) → k ≢ n
    other k (inl e) = other_run k n run e
    other k (inr none) = λ same. none x owns (is ∙ sym same)

  pub extensions_same : (old new : List (ℕ × Value)) (rs : List (ℕ × Payload)) → new ≡ old → SparesExtensions m old new rs
  extensions_same old new rs is = record { spared = λ n e. ap (λ l. value_at l n) is }

  read_more : (rs ts : List (ℕ × Payload)) → ReadsMember m rs ⊎ ReadsMember m ts → ReadsMember m (rs ++ ts)
  read_more rs ts (inl (f, is, some, read)) = (f, is, some, λ e. read (both_unread (field_type f).number rs ts e).0)
  read_more rs ts (inr (f, is, some, read)) = (f, is, some, λ e. read (both_unread (field_type f).number rs ts e).1)

  pub fields_same : (old new : List (ℕ × Value)) (rs : List (ℕ × Payload)) → new ≡ old → SparesFields m old new rs
  fields_same old new rs is = record { spared = λ n e. inl (ap (λ l. value_at l n) is) }

  module _ (a b c : List (ℕ × Value)) (rs ts : List (ℕ × Payload)) (h : SparesFields m a b rs) (k : SparesFields m b c ts) where
    one_more : (n : ℕ) → Same a b n ⊎ ((value_at b n ≡ None) × ReadsMember m rs) → Same b c n ⊎ ((value_at c n ≡ None) × ReadsMember m ts) → Same a c n ⊎ ((value_at c n ≡ None) × ReadsMember m (rs ++ ts))
    one_more n (inl x) (inl y) = inl (y ∙ x)
    one_more n (inr x) (inl y) = inr (y ∙ x.0, read_more rs ts (inl x.1))
    one_more n x (inr y) = inr (y.0, read_more rs ts (inr y.1))

    pub fields_more : SparesFields m a c (rs ++ ts)
    fields_more = record { spared = λ n e. let both = both_spared n rs ts (NoField m n) e in one_more n (h.spared n both.0) (k.spared n both.1) }

  -- a record of a field that unsets at most one sibling
  pub fields_run : (f : FieldDescriptor) (choices : List (ℕ × ℕ)) (a b c : List (ℕ × Value)) (run : List Payload × Payload) → Owns m f
      → ((k : ℕ) → k ≢ (field_type f).number → Same a b k) → Unsets f choices b c → SparesFields m a c (run_records (field_type f).number run)
  fields_run f choices a b c run owns h unsets = record { spared = λ k e. by k (h k (other k e)) (is_or_not (sibling f choices) k) } where
    other : (k : ℕ) → IsSpared (run_records (field_type f).number run) k (NoField m k) → k ≢ (field_type f).number
    other k (inl e) = other_run k (field_type f).number run e
    other k (inr none) = λ same. none f owns (sym same)

    by : (k : ℕ) → Same a b k → (sibling f choices ≡ Some k) ⊎ (sibling f choices ≢ Some k) → Same a c k ⊎ ((value_at c k ≡ None) × ReadsMember m (run_records (field_type f).number run))
    by k x (inl is) = inr (unsets.unset k is, (f, owns.0, in_oneof f choices k is, run_read (field_type f).number run))
    by k x (inr not) = inl (unsets.others k not ∙ x)

module _ (inner : Takes) (m : MessageDescriptor) where
  pub merges_none : (a : Content) → Merges inner m a a []
  merges_none a = record {
    fields = fields_same m a.fields a.fields [] refl;
    filled = filled_none inner m a;
    extensions = extensions_same m a.extensions a.extensions [] refl;
    extended = extended_none inner m a.extensions;
    unknown = keeps_none m a.unknown;
    ordered = λ before. before;
    in_order = λ before. before;
  }

  pub merges_more : Joins inner → (a b c : Content) (rs ts : List (ℕ × Payload)) → Merges inner m a b rs → Merges inner m b c ts → Merges inner m a c (rs ++ ts)
  merges_more joins a b c rs ts h k = record {
    fields = fields_more m a.fields b.fields c.fields rs ts h.fields k.fields;
    filled = λ chosen. let first = h.filled chosen in filled_both inner m joins a b c rs ts first (k.filled first.chosen);
    extensions = extensions_more m a.extensions b.extensions c.extensions rs ts h.extensions k.extensions;
    extended = extended_both inner m joins a.extensions b.extensions c.extensions rs ts h.extended k.extended;
    unknown = keeps_more m a.unknown b.unknown c.unknown rs ts h.unknown k.unknown;
    ordered = λ before. k.ordered (h.ordered before);
    in_order = λ before. k.in_order (h.in_order before);
  }

  -- records of a field, for whose choice room is made, and which is then noted
  pub merges_field : Orders inner → (g : FieldDescriptor) → Owns m g → (n : ℕ) → (field_type g).number ≡ n → (old new : Content) (room : List (ℕ × ℕ)) (between : List (ℕ × Value)) (run : List Payload × Payload)
      → MakesRoom g old.choices room → ((k : ℕ) → k ≢ n → Same old.fields between k) → Leaves inner (field_pool g) (field_type g) (value_at old.fields n) (value_at between n) (run.0 ++ run.1 ∷ [])
      → Unsets g room between new.fields → Chooses g room new.choices → new.extensions ≡ old.extensions → new.unknown ≡ old.unknown
      → (1 ≤ n) × (n ≤ last) → (IsAscending old.fields → IsAscending new.fields) → Merges inner m old new (run_records n run)
  merges_field orders g owns n is old new room between run made put leaves unsets chooses extensions unknown within rising =
      let number = (field_type g).number in
      let there : (k : ℕ) → k ≢ number → Same old.fields between k = λ k e. put k (λ s. e (s ∙ sym is)) in
      let left = subst (λ n. Leaves inner (field_pool g) (field_type g) (value_at old.fields n) (value_at between n) (run.0 ++ run.1 ∷ [])) (sym is) leaves in
      let kept = room_keeps g old.choices room made in
      let clears : Unsets g old.choices between new.fields = record { unset = λ k e. unsets.unset k (kept ∙ e); others = λ k e. unsets.others k (λ s. e (sym kept ∙ s)) } in
      let notes = room_chosen g old.choices room new.choices made chooses in
      let merged : Merges inner m old new (run_records number run) = record {
        fields = fields_run m g old.choices old.fields between new.fields run owns there clears;
        filled = λ chosen. filled_run inner m g owns old new between chosen notes there clears run left;
        extensions = extensions_same m old.extensions new.extensions (run_records number run) extensions;
        extended = extended_apart inner m old.extensions new.extensions number run (λ x owned free e. free g owns (sym e)) extensions;
        unknown = keeps_declared m old.unknown new.unknown number run unknown (field_declared m g number owns refl);
        ordered = λ before. record {
          fields =
              numbered_put n within old.fields new.fields rising
              (λ k other. by k other (is_or_not (sibling g room) k)) before.fields;
          extensions = subst AreNumbered (sym extensions) before.extensions;
          unknown = subst (Ascend 1 last) (sym unknown) before.unknown;
        };
        in_order = field_in_order inner orders m old new g owns between (run.0 ++ run.1 ∷ []) there left clears rising extensions;
      } in
      subst (λ n. Merges inner m old new (run_records n run)) is merged where
        by : (k : ℕ) → k ≢ n → (sibling g room ≡ Some k) ⊎ (sibling g room ≢ Some k) → Holds n within old.fields new.fields k
        by k other (inl e) = inr (unsets.unset k e)
        by k other (inr not) = inl (unsets.others k not ∙ put k other)

  module _ (levels : ℕ) (key : WireKey) (bytes : List ℕ) (old new : Content) where
    -- where records are kept, nothing else changes
    abbrev Answers : List ℕ → Type 0
    Answers rest = (run : List Payload × Payload) × Fronts (IsRun levels key) bytes run rest × Merges inner m old new (run_records key.number run) × (Suits levels m old → Accepts levels m (run_records key.number run))

    pub merges_kept : (r : Result (Bor (List ℕ)) WireError) → None ≡ known_field m.pool.now m.index key.number → None ≡ known_extension m.pool.now m.index key.number → NoField m key.number → ((x : ExtensionDescriptor) → OwnsExtension m x → (extension_type x).number ≢ key.number) → new.fields ≡ old.fields → new.choices ≡ old.choices → new.extensions ≡ old.extensions
        → IfOk r (λ rest. (run : List Payload × Payload) × Fronts (IsRun levels key) bytes run rest.now × KeepsUndeclared m old.unknown new.unknown (run_records key.number run)
        × (Ascend 1 last old.unknown → Ascend 1 last new.unknown))
        → IfOk r (λ rest. Answers rest.now)
    merges_kept (Ok rest) no_field no_extension none apart fields choices extensions h = (
      h.0,
      h.1,
      record {
        fields = fields_same m old.fields new.fields (run_records key.number h.0) fields;
        filled = filled_apart inner m old new key.number h.0 none fields choices;
        extensions = extensions_same m old.extensions new.extensions (run_records key.number h.0) extensions;
        extended = extended_apart inner m old.extensions new.extensions key.number h.0 (λ x owns free. apart x owns) extensions;
        unknown = h.2;
        ordered = λ before. record {
          fields = subst AreNumbered (sym fields) before.fields;
          extensions = subst AreNumbered (sym extensions) before.extensions;
          unknown = h.3 before.unknown;
        };
        in_order = others_in_order old new fields extensions;
      },
      λ suits. run_of_others levels m key.number h.0 no_field no_extension,
    )
    merges_kept (Err e) no_field no_extension none apart fields choices extensions h = tt

    -- records of an extension
    pub merges_extension : Orders inner → (r : Result (Bor (List ℕ)) WireError) → NoField m key.number → (x : ExtensionDescriptor) → None ≡ known_field m.pool.now m.index key.number → Some (extension_type x) ≡ known_extension m.pool.now m.index key.number → OwnsExtension m x → (extension_type x).number ≡ key.number → new.fields ≡ old.fields → new.choices ≡ old.choices → new.unknown ≡ old.unknown
        → (1 ≤ key.number) × (key.number ≤ last) → (IsAscending old.extensions → IsAscending new.extensions)
        → ((k : ℕ) → k ≢ key.number → Same old.extensions new.extensions k)
        → IfOk r (λ rest. (run : List Payload × Payload) × Fronts (IsRun levels key) bytes run rest.now × Leaves inner (extension_pool x) (extension_type x) (value_at old.extensions key.number) (value_at new.extensions key.number) (run.0 ++ run.1 ∷ [])
        × (HeldSuits (SuitsBelow levels) (extension_pool x) (extension_type x) (value_at old.extensions key.number) → AllByRecursion (AcceptsField levels (AcceptsMessage levels) (extension_pool x) (extension_type x)) (run.0 ++ run.1 ∷ [])))
        → IfOk r (λ rest. Answers rest.now)
    merges_extension orders (Ok rest) none x no_field known owns is fields choices unknown within rising others h = (
      h.0,
      h.1,
      record {
        fields = fields_same m old.fields new.fields (run_records key.number h.0) fields;
        filled = filled_apart inner m old new key.number h.0 none fields choices;
        extensions = extensions_run m x owns old.extensions new.extensions key.number is h.0 others;
        extended = extended_run inner m x owns key.number is none old.extensions new.extensions h.0 others h.2;
        unknown = keeps_declared m old.unknown new.unknown key.number h.0 unknown (inr (x, owns, is));
        ordered = λ before. record {
          fields = subst AreNumbered (sym fields) before.fields;
          extensions =
              numbered_put key.number within old.extensions new.extensions rising
              (λ k other. inl (others k other)) before.extensions;
          unknown = subst (Ascend 1 last) (sym unknown) before.unknown;
        };
        in_order = extension_in_order inner orders m old new x owns key.number (h.0.0 ++ h.0.1 ∷ []) fields rising others h.2;
      },
      λ suits. run_of_extension levels m key.number (extension_pool x) (extension_type x) h.0 no_field known owns.0.0 (h.3 (held suits)),
    ) where
      held : Suits levels m old → HeldSuits (SuitsBelow levels) (extension_pool x) (extension_type x) (value_at old.extensions key.number)
      held suits = subst (λ n. HeldSuits (SuitsBelow levels) (extension_pool x) (extension_type x) (value_at old.extensions n)) is (suits.extensions x owns (subst (NoField m) (sym is) none))
    merges_extension orders (Err e) none x no_field known owns is fields choices unknown within rising others h = tt

-- what a message that held nothing holds of the records
pub decoded : (inner : Takes) (m type : MessageDescriptor) (levels : ℕ) (bytes rest : List ℕ) (a b : Content) (rs : List (ℕ × Payload)) → type ≡ m → Fronts (IsBody None levels) bytes rs rest → rest ≡ [] → Merges inner type a b rs
    → a.fields ≡ [] → a.extensions ≡ [] → a.unknown ≡ [] → AreChosen type a.choices a.fields → a ≡ nothing → (Suits levels type a → Accepts levels type rs)
    → (rs : List (ℕ × Payload)) × SpellsRecords levels bytes (records_of rs) × KeepsUndeclared m [] b.unknown rs × HoldsRead (NoField m) b.fields rs × HoldsRead (NoExtension m) b.extensions rs × HoldFields inner m b.fields rs × HoldExtensions inner m b.extensions rs × Accepts levels m rs × IsOrdered b
decoded inner m type levels bytes rest a b rs same read whole h fields extensions unknown chosen empty accepted =
    let merged = subst (λ m. Merges inner m a b rs) same h in (
      rs,
      whole_body levels bytes rest rs read whole,
      subst (λ l. KeepsUndeclared m l b.unknown rs) unknown merged.unknown,
      λ n e. by n (merged.fields.spared n e),
      λ n e. merged.extensions.spared n e ∙ ap (λ l. value_at l n) extensions,
      filled_empty inner m a b rs fields (merged.filled (subst (λ m. AreChosen m a.choices a.fields) same chosen)),
      extended_empty inner m a.extensions b.extensions rs extensions merged.extended,
      subst (λ t. Accepts levels t rs) same (accepted (subst (Suits levels type) (sym empty) (nothing_suits (SuitsBelow levels) type))),
      merged.ordered (subst IsOrdered (sym empty) nothing_ordered),
    ) where
      by : (n : ℕ) → Same a.fields b.fields n ⊎ ((value_at b.fields n ≡ None) × ReadsMember m rs) → value_at b.fields n ≡ None
      by n (inl is) = is ∙ ap (λ l. value_at l n) fields
      by n (inr none) = none.0
