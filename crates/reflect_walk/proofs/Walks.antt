-- One more declaration, one more level, and walks one after another.
use Rattle.std.proofs.Common.{◌≡◌, ℕ, ℤ, ◌<◌, ◌≤◌, ◌+◌, List, [], ◌∷◌, ◌++◌, take, length, get_or, map, ap, sym, subst, ◌∙◌, append_assoc, arith, zero-add, Option, refl}
use Rattle.std.proofs.lemmas.List.{take_all, take_more, map_push, append-nil, length-take-le, length-map}
use Rattle.descriptor_records.specs.declared.message.DescriptorProto.{DescriptorProto}
use Rattle.descriptor_records.specs.declared.message.DescriptorProto.TheFolds.{fold_out-DescriptorProto}
use Rattle.descriptor_records.specs.declared.message.DescriptorProto.TheViews.{out-DescriptorProto}
use Rattle.reflect_declarations.specs.Tree.{Message, message, Messages, no_messages, more_messages, messages_of, message_step, tree_of, parts_of}
use Rattle.reflect_declarations.specs.Declarations.{Declaration, Runs, each, entry, tree_declarations, trees_declarations, past_tree, past_trees, past_message}
use Rattle.reflect_declarations.specs.declared.offsets.Offsets.{Offsets}

pub runs_append : {S D : Type 0} (R : S → D → S → Type 0) (a b : List D) (s m t : S) → Runs R s a m → Runs R m b t → Runs R s (a ++ b) t
runs_append R [] b s m t p q = subst (λ x. Runs R x b t) p q
runs_append R (d ∷ a) b s m t p q = (p.0, (p.1.0, runs_append R a b p.0 m t p.1.1 q))

pub runs_split : {S D : Type 0} (R : S → D → S → Type 0) (a b : List D) (s t : S) → Runs R s (a ++ b) t → (m : S) × (Runs R s a m × Runs R m b t)
runs_split R [] b s t p = (s, (refl, p))
runs_split R (d ∷ a) b s t p = let rest = runs_split R a b p.0 t p.1.1 in (rest.0, ((p.0, (p.1.0, rest.1.0)), rest.1.1))

each-push : {A B : Type 0} (one : ℕ → A → List B) (i : ℕ) (xs : List A) (x : A) → each one i (xs ++ x ∷ []) ≡ each one i xs ++ one (i + length xs) x
each-push one i [] x = let e : i ≡ i + 0 = omega arith in append-nil (one i x) ∙ ap (λ n. one n x) e
each-push one i (y ∷ xs) x =
    let e : i + 1 + length xs ≡ i + length (y ∷ xs) = omega arith in
    ap (λ ds. one i y ++ ds) (each-push one (i + 1) xs x ∙ ap (λ n. each one (i + 1) xs ++ one n x) e)
    ∙ sym (append_assoc (one i y) (each one (i + 1) xs) (one (i + length (y ∷ xs)) x))

pub each_more : {A B : Type 0} (one : ℕ → A → List B) (xs : List A) (k : ℕ) (d : A) → k < length xs
    → each one 0 (take (k + 1) xs) ≡ each one 0 (take k xs) ++ one k (get_or xs k d)
each_more one xs k d lt =
    let len : 0 + length (take k xs) ≡ k = zero-add _ ∙ length-take-le k xs (omega arith) in
    ap (each one 0) (take_more xs k d lt) ∙ each-push one 0 (take k xs) (get_or xs k d) ∙ ap (λ n. each one 0 (take k xs) ++ one n (get_or xs k d)) len

-- a walk goes on by one entry of a list
pub run_more : {A S : Type 0} (R : S → Declaration → S → Type 0) (one : ℕ → A → List Declaration) (xs : List A) (k : ℕ) (x : A) (s m t : S)
    → k < length xs → x ≡ get_or xs k x → Runs R s (each one 0 (take k xs)) m → Runs R m (one k x) t → Runs R s (each one 0 (take (k + 1) xs)) t
run_more R one xs k x s m t lt is before now =
    subst (λ ds. Runs R s ds t) (sym (each_more one xs k x lt))
    (runs_append R (each one 0 (take k xs)) (one k (get_or xs k x)) s m t before (subst (λ y. Runs R m (one k y) t) is now))

-- a walk that came to the end of a list
pub run_all : {A S : Type 0} (R : S → Declaration → S → Type 0) (one : ℕ → A → List Declaration) (k : ℕ) (xs ys : List A) (s t : S)
    → length xs ≤ k → xs ≡ ys → Runs R s (each one 0 (take k xs)) t → Runs R s (each one 0 ys) t
run_all R one k xs ys s t end is = subst (λ zs. Runs R s (each one 0 zs) t) (take_all k xs end ∙ is)

past_push : (o : Offsets) (ms : List Message) (m : Message) → past_trees o (messages_of (ms ++ m ∷ [])) ≡ past_tree (past_trees o (messages_of ms)) m
past_push o [] m = refl
past_push o (n ∷ ms) m = past_push (past_tree o n) ms m

trees_push : (path : List ℤ) (tag : ℤ) (scope : List ℕ) (file : ℕ) (parent : Option ℕ) (i : ℕ) (o : Offsets) (ms : List Message) (m : Message)
    → trees_declarations path tag scope file parent i o (messages_of (ms ++ m ∷ []))
    ≡ trees_declarations path tag scope file parent i o (messages_of ms) ++ tree_declarations (entry path tag (i + length ms)) scope file parent (past_trees o (messages_of ms)) m
trees_push path tag scope file parent i o [] m =
    let e : i ≡ i + 0 = omega arith in
    append-nil (tree_declarations (entry path tag i) scope file parent o m) ∙ ap (λ n. tree_declarations (entry path tag n) scope file parent o m) e
trees_push path tag scope file parent i o (k ∷ ms) m =
    let e : i + 1 + length ms ≡ i + length (k ∷ ms) = omega arith in
    ap (λ ds. tree_declarations (entry path tag i) scope file parent o k ++ ds)
    (trees_push path tag scope file parent (i + 1) (past_tree o k) ms m
    ∙ ap (λ n. trees_declarations path tag scope file parent (i + 1) (past_tree o k) (messages_of ms) ++ tree_declarations (entry path tag n) scope file parent (past_trees (past_tree o k) (messages_of ms)) m) e)
    ∙ sym (append_assoc (tree_declarations (entry path tag i) scope file parent o k) _ _)

-- the counts behind one more message
pub past_more : (o : Offsets) (ms : List DescriptorProto) (k : ℕ) (d : DescriptorProto) → k < length ms
    → past_trees o (messages_of (map tree_of (take (k + 1) ms))) ≡ past_tree (past_trees o (messages_of (map tree_of (take k ms)))) (tree_of (get_or ms k d))
past_more o ms k d lt =
    ap (λ xs. past_trees o (messages_of xs)) (ap (map tree_of) (take_more ms k d lt) ∙ map_push tree_of (take k ms) (get_or ms k d))
    ∙ past_push o (map tree_of (take k ms)) (tree_of (get_or ms k d))

-- a walk goes on by one message
pub run_tree : {S : Type 0} (R : S → Declaration → S → Type 0) (path : List ℤ) (tag : ℤ) (scope : List ℕ) (file : ℕ) (parent : Option ℕ) (o : Offsets) (ms : List DescriptorProto) (k : ℕ) (m : DescriptorProto) (s u t : S)
    → k < length ms → m ≡ get_or ms k m
    → Runs R s (trees_declarations path tag scope file parent 0 o (messages_of (map tree_of (take k ms)))) u
    → Runs R u (tree_declarations (entry path tag k) scope file parent (past_trees o (messages_of (map tree_of (take k ms)))) (tree_of m)) t
    → Runs R s (trees_declarations path tag scope file parent 0 o (messages_of (map tree_of (take (k + 1) ms)))) t
run_tree R path tag scope file parent o ms k m s u t lt is before now =
    let front = map tree_of (take k ms) in
    let len : 0 + length front ≡ k = zero-add _ ∙ length-map (take k ms) tree_of ∙ length-take-le k ms (omega arith) in
    let same = ap (λ xs. trees_declarations path tag scope file parent 0 o (messages_of xs)) (ap (map tree_of) (take_more ms k m lt) ∙ map_push tree_of (take k ms) (get_or ms k m))
    ∙ trees_push path tag scope file parent 0 o front (tree_of (get_or ms k m))
    ∙ ap (λ n. trees_declarations path tag scope file parent 0 o (messages_of front) ++ tree_declarations (entry path tag n) scope file parent (past_trees o (messages_of front)) (tree_of (get_or ms k m))) len in
    subst (λ ds. Runs R s ds t) (sym same)
    (runs_append R _ _ s u t before (subst (λ y. Runs R u (tree_declarations (entry path tag k) scope file parent (past_trees o (messages_of front)) (tree_of y)) t) is now))

pub tree_of-out : (m : DescriptorProto) → tree_of m ≡ message (parts_of m) (messages_of (map tree_of (out-DescriptorProto m).nested_type.items))
tree_of-out = fold_out-DescriptorProto Message message_step

-- messages hold no services
mutual
  pub tree_services : (o : Offsets) (m : Message) → (past_tree o m).services ≡ o.services
  tree_services o (message own nested) = trees_services (past_message o) nested

  pub trees_services : (o : Offsets) (ms : Messages) → (past_trees o ms).services ≡ o.services
  trees_services o no_messages = refl
  trees_services o (more_messages m ms) = trees_services (past_tree o m) ms ∙ tree_services o m
