-- Where names have no dots, what stands before a dot of a declared name is a package or a message of the same file.
use Rattle.std.proofs.Common.{◌≡◌, List, [], ◌∷◌, ◌++◌, ◌⊎◌, inl, inr, map, length, Bool, true, false, cond, ◌||◌, eqb, Option, refl, sym, ap, ◌∙◌, subst, arith}
use Rattle.std.specs.List.{Contains, flat_map, AllByRecursion}
use Rattle.std.proofs.lemmas.List.Elements.{Contains-append_left, Contains-append_right, Contains-append_cases}
use Rattle.descriptor_records.specs.Content.{Text, FieldContent, OneofContent, EnumValueContent, EnumContent, MethodContent, ServiceContent, MessageContent, message, MessageContents, no_messages, more_messages, FileContent}
use Rattle.schema_view.specs.Files.{text_of, join, package_of}
use Rattle.schema_view.specs.Declarations.{facts_of, of_message, of_service, service_facts, Declaration, one_field, one_oneof, one_extension, one_value, one_enum, one_method, one_service, in_message, in_messages, declarations}
use Rattle.schema_view.specs.Outlines.{Outline, outline_of, Head, head_of, IsScope}
use Rattle.schema_view.specs.Means.{has_dot, first_part, is_holder, HoldsNames}
use Rattle.schema_view.specs.Plain.{HasPlainName, IsPlainEnum, IsPlainService, IsPlainMessage, ArePlainMessages, IsPlainFile}
use Rattle.std.proofs.lemmas.List.Concat.{flat_map-cons}
use Rattle.schema_view.proofs.Lists.{contains_none, contains_here, contains_there, contains_cases, contains_map, contains_map_cases}

some_dot : (a b : Text) → has_dot (a ++ (46 ∷ b)) ≡ true
some_dot [] b = refl
some_dot (x ∷ a) b = elim (eqb x 46) as (λ v. (v || has_dot (a ++ (46 ∷ b))) ≡ true) [ true ↦ refl | false ↦ some_dot a b ]

-- the first dot of a name
pub split_first : (name : Text) → has_dot name ≡ true → (rest : Text) × (name ≡ first_part name ++ (46 ∷ rest))
split_first [] e = absurd (cc)
split_first (b ∷ bs) e = by (eqb b 46) refl e (split_first bs) where
  by : (v : Bool) → eqb b 46 ≡ v → (v || has_dot bs) ≡ true → (has_dot bs ≡ true → (rest : Text) × (bs ≡ first_part bs ++ (46 ∷ rest)))
      → (rest : Text) × (b ∷ bs ≡ cond (eqb b 46) [] (b ∷ first_part bs) ++ (46 ∷ rest))
  by true is d rest = let same : b ≡ 46 = grind (arith, is) in (bs, ap (λ n. n ∷ bs) same ∙ ap (λ v. cond v [] (b ∷ first_part bs) ++ (46 ∷ bs)) (sym is))
  by false is d rest = let r = rest d in (r.0, ap (λ xs. b ∷ xs) r.1 ∙ ap (λ v. cond v [] (b ∷ first_part bs) ++ (46 ∷ r.0)) (sym is))

-- the last dot is the one before the name
last_dot : (s a n b : Text) → has_dot n ≡ false → s ++ (46 ∷ n) ≡ a ++ (46 ∷ b) → (a ≡ s) ⊎ ((r : Text) × (s ≡ a ++ (46 ∷ r)))
last_dot [] [] n b plain e = inl refl
last_dot [] (x ∷ a) n b plain e = let t : n ≡ a ++ (46 ∷ b) = cc in let d : true ≡ false = sym (some_dot a b) ∙ sym (ap has_dot t) ∙ plain in absurd (cc)
last_dot (y ∷ s) [] n b plain e = let h : y ≡ 46 = cc in inr (s, ap (λ z. z ∷ s) h)
last_dot (y ∷ s) (x ∷ a) n b plain e =
    let h : y ≡ x = cc in let t : s ++ (46 ∷ n) ≡ a ++ (46 ∷ b) = cc in
    elim (last_dot s a n b plain t) [
      | inl is ↦ inl (ap (λ z. z ∷ a) (sym h) ∙ ap (λ zs. y ∷ zs) is)
      | inr (r, is) ↦ inr (r, ap (λ zs. y ∷ zs) is ∙ ap (λ z. z ∷ (a ++ (46 ∷ r))) h)
    ]

join_scope : (s : Text) (n : Option Text) (a b : Text) → HasPlainName n → join s (text_of n) ≡ a ++ (46 ∷ b) → IsScope s a
join_scope [] n a b plain e = let d : true ≡ false = sym (some_dot a b) ∙ sym (ap has_dot e) ∙ plain in absurd (cc)
join_scope (c ∷ s) n a b plain e = elim (last_dot (c ∷ s) a (text_of n) b plain e) [ inl is ↦ inl is | inr (r, is) ↦ inr (inr (r, is)) ]

-- each name around this one holds names
abbrev AllHold : List Outline → Text → Type 0
AllHold os s = (a : Text) → IsScope s a → (a ≡ [] → ⊥) → HoldsNames os a

abbrev IsNested : List Outline → Text → Type 0
IsNested os name = (a b : Text) → name ≡ a ++ (46 ∷ b) → (a ≡ [] → ⊥) → HoldsNames os a

abbrev pub AreNested : List Outline → Type 0
AreNested os = (o : Outline) (h : Head) → Contains os o → Contains o.heads h → (a b : Text) → h.name ≡ a ++ (46 ∷ b) → (a ≡ [] → ⊥) → HoldsNames os a

module _ (os : List Outline) where
  inner : (s : Text) (n : Option Text) → AllHold os s → HasPlainName n → IsNested os (join s (text_of n))
  inner s n all plain a b e some = all a (join_scope s n a b plain e) some

  deeper : (s : Text) (n : Option Text) → AllHold os s → HasPlainName n → HoldsNames os (join s (text_of n)) → AllHold os (join s (text_of n))
  deeper s n all plain here a (inl e) some = subst (HoldsNames os) (sym e) here
  deeper s n all plain here a (inr (inl e)) some = absurd (some e)
  deeper s n all plain here a (inr (inr (r, e))) some = inner s n all plain a r e some

  abbrev EachNested : List Declaration → Type 0
  EachNested ds = (d : Declaration) → Contains ds d → IsNested os d.name

  none_nested : EachNested []
  none_nested d i = absurd (contains_none d i)

  both_nested : (ds es : List Declaration) → EachNested ds → EachNested es → EachNested (ds ++ es)
  both_nested ds es l r d i = elim (Contains-append_cases ds es d i) [ inl j ↦ l d j | inr j ↦ r d j ]

  first_nested : (d : Declaration) (ds : List Declaration) → IsNested os d.name → EachNested ds → EachNested (d ∷ ds)
  first_nested d ds l r e i = elim (contains_cases d ds e i) [ inl j ↦ subst (λ (x : Declaration). IsNested os x.name) j l | inr j ↦ r e j ]

  -- declarations of one sort, each by its name in the scope
  each_nested : {X : Type 0} (s : Text) (name : X → Option Text) (one : X → Declaration) → AllHold os s → ((x : X) → (one x).name ≡ join s (text_of (name x)))
      → (xs : List X) → AllByRecursion (λ x. HasPlainName (name x)) xs → EachNested (map one xs)
  each_nested s name one all is [] plain = none_nested
  each_nested s name one all is (x ∷ xs) plain = first_nested (one x) (map one xs) (subst (IsNested os) (sym (is x)) (inner s (name x) all plain.0)) (each_nested s name one all is xs plain.1)

  abbrev Declared : List Declaration → Type 0
  Declared ds = (d : Declaration) → Contains ds d → is_holder (head_of d).sort ≡ true → HoldsNames os d.name

  left : (ds es : List Declaration) → Declared (ds ++ es) → Declared ds
  left ds es there d i = there d (Contains-append_left ds es d i)

  right : (ds es : List Declaration) → Declared (ds ++ es) → Declared es
  right ds es there d i = there d (Contains-append_right ds es d i)

  enums_nested : (s : Text) → AllHold os s → (es : List EnumContent) → AllByRecursion IsPlainEnum es → EachNested (flat_map (one_enum s) es)
  enums_nested s all [] plain = none_nested
  enums_nested s all (e ∷ es) plain =
      subst EachNested (sym (flat_map-cons (one_enum s) e es)) (both_nested (one_enum s e) (flat_map (one_enum s) es)
      (first_nested _ _ (inner s e.name all plain.0.name) (each_nested s (λ (v : EnumValueContent). v.name) (one_value s) all (λ v. refl) e.value plain.0.values))
      (enums_nested s all es plain.1))

  services_nested : (s : Text) → AllHold os s → (ss : List ServiceContent) → AllByRecursion IsPlainService ss → Declared (flat_map (one_service s) ss) → EachNested (flat_map (one_service s) ss)
  services_nested s all [] plain there = none_nested
  services_nested s all (v ∷ vs) plain there =
      let both : Declared (one_service s v ++ flat_map (one_service s) vs) = subst Declared (flat_map-cons (one_service s) v vs) there in
      let here : Declared (one_service s v) = left (one_service s v) (flat_map (one_service s) vs) both in
      let head : Declaration = record { name = join s (text_of v.name); body = of_service (service_facts v) } in
      let deep : AllHold os (join s (text_of v.name)) = deeper s v.name all plain.0.name (here head (contains_here head (map (one_method (join s (text_of v.name))) v.method)) refl) in
      subst EachNested (sym (flat_map-cons (one_service s) v vs)) (both_nested (one_service s v) (flat_map (one_service s) vs)
      (first_nested head _ (inner s v.name all plain.0.name) (each_nested (join s (text_of v.name)) (λ (m : MethodContent). m.name) (one_method (join s (text_of v.name))) deep (λ m. refl) v.method plain.0.methods))
      (services_nested s all vs plain.1 (right (one_service s v) (flat_map (one_service s) vs) both)))

  mutual
    message_nested : (s : Text) (m : MessageContent) → AllHold os s → IsPlainMessage m → Declared (in_message s m) → EachNested (in_message s m)
    message_nested s (message name fs xs nested es rs os' o rr rn) all plain there =
        let n : Text = join s (text_of name) in
        let head : Declaration = record { name = n; body = of_message (record { name = name; fields = map facts_of fs; oneofs = length os'; extensions = rs; reserved = rr; reserved_names = rn; options = o }) } in
        let oneofs : List Declaration = map (one_oneof n) os' in
        let extensions : List Declaration = map (one_extension n) xs in
        let enums : List Declaration = flat_map (one_enum n) es in
        let parts : List Declaration = map (one_field n) fs ++ (in_messages n nested ++ (enums ++ (extensions ++ oneofs))) in
        let deep : AllHold os n = deeper s name all plain.0 (there head (contains_here head parts) refl) in
        let rest : Declared parts = λ d i. there d (contains_there head parts d i) in
        let within : Declared (in_messages n nested) = left (in_messages n nested) (enums ++ (extensions ++ oneofs)) (right (map (one_field n) fs) (in_messages n nested ++ (enums ++ (extensions ++ oneofs))) rest) in
        first_nested head parts (inner s name all plain.0)
        (both_nested (map (one_field n) fs) (in_messages n nested ++ (enums ++ (extensions ++ oneofs))) (each_nested n (λ (f : FieldContent). f.name) (one_field n) deep (λ f. refl) fs plain.1)
        (both_nested (in_messages n nested) (enums ++ (extensions ++ oneofs)) (messages_nested n nested deep plain.2 within)
        (both_nested enums (extensions ++ oneofs) (enums_nested n deep es plain.3)
        (both_nested extensions oneofs (each_nested n (λ (x : FieldContent). x.name) (one_extension n) deep (λ x. refl) xs plain.4) (each_nested n (λ (q : OneofContent). q.name) (one_oneof n) deep (λ q. refl) os' plain.5)))))

    messages_nested : (s : Text) (ms : MessageContents) → AllHold os s → ArePlainMessages ms → Declared (in_messages s ms) → EachNested (in_messages s ms)
    messages_nested s no_messages all plain there = none_nested
    messages_nested s (more_messages m ms) all plain there =
        both_nested (in_message s m) (in_messages s ms)
        (message_nested s m all plain.0 (left (in_message s m) (in_messages s ms) there))
        (messages_nested s ms all plain.1 (right (in_message s m) (in_messages s ms) there))

  all_nested : (s : Text) → AllHold os s → (ms : List MessageContent) → AllByRecursion IsPlainMessage ms → Declared (flat_map (in_message s) ms) → EachNested (flat_map (in_message s) ms)
  all_nested s all [] plain there = none_nested
  all_nested s all (m ∷ ms) plain there =
      let both : Declared (in_message s m ++ flat_map (in_message s) ms) = subst Declared (flat_map-cons (in_message s) m ms) there in
      subst EachNested (sym (flat_map-cons (in_message s) m ms)) (both_nested (in_message s m) (flat_map (in_message s) ms)
      (message_nested s m all plain.0 (left (in_message s m) (flat_map (in_message s) ms) both))
      (all_nested s all ms plain.1 (right (in_message s m) (flat_map (in_message s) ms) both)))

  pub file_nested : (f : FileContent) → Contains os (outline_of f) → IsPlainFile f → (h : Head) → Contains (outline_of f).heads h → IsNested os h.name
  file_nested f i plain h j =
      let p : Text = package_of f in
      let all : AllHold os p = λ a s some. inl (outline_of f, i, s) in
      let there : Declared (declarations f) = λ d k is. inr (outline_of f, head_of d, i, contains_map head_of (declarations f) d k, refl, is) in
      let messages : List Declaration = flat_map (in_message p) f.message_type in
      let enums : List Declaration = flat_map (one_enum p) f.enum_type in
      let services : List Declaration = flat_map (one_service p) f.service in
      let extensions : List Declaration = map (one_extension p) f.extension in
      let later : Declared (services ++ extensions) = right enums (services ++ extensions) (right messages (enums ++ (services ++ extensions)) there) in
      let nested : EachNested (declarations f) = both_nested messages (enums ++ (services ++ extensions)) (all_nested p all f.message_type plain.messages (left messages (enums ++ (services ++ extensions)) there))
      (both_nested enums (services ++ extensions) (enums_nested p all f.enum_type plain.enums)
      (both_nested services extensions (services_nested p all f.service plain.services (left services extensions later))
      (each_nested p (λ (x : FieldContent). x.name) (one_extension p) all (λ x. refl) f.extension plain.extensions))) in
      let d = contains_map_cases head_of (declarations f) h j in
      subst (λ (x : Head). IsNested os x.name) d.2 (nested d.0 d.1)
