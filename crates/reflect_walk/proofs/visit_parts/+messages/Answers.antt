use Rattle.std.proofs.Common.{◌≡◌, ℤ, pos, ap, refl, map, take, length, arith, subst, sym, ◌∙◌, to_z, of_z, w32, Some}
use Rattle.std.proofs.lemmas.Int.{to_z-of_z}
use Rattle.std.proofs.lemmas.List.{take_all}
use Rattle.std.proofs.lemmas.Result.{err_from_is_err_and}
use Rattle.reflect_scope.specs.Means.{join}
use Rattle.descriptor_records.specs.declared.message.DescriptorProto.TheViews.{out-DescriptorProto}
use Rattle.reflect_declarations.specs.declared.offsets.Offsets.{Offsets}
use Rattle.reflect_declarations.specs.Tree.{text_of, message, parts_of, messages_of, tree_of}
use Rattle.reflect_declarations.specs.Declarations.{Runs, each, entry, one_field, one_enum, one_extension, one_oneof, message_declaration, tree_declarations, trees_declarations, past_tree, past_trees, past_message, past_enums, past_extensions}
use Rattle.reflect_walk.proofs.Walks.{run_tree, past_more, runs_append, runs_split, tree_of-out}
use Rattle.reflect_walk.specs.Items.{message_items}
use Rattle.reflect_walk.proofs.visit_parts.+messages.Goals as goal

pub visit_messages-turns-init : goal.visit_messages-turns-init
visit_messages-turns-init g t c = record { runs = refl; counts = refl; keeps = g.met.V.Visitor.kept_same c.args.file c.args.visitor.now }

pub visit_messages-turns-preserved : goal.visit_messages-turns-preserved
visit_messages-turns-preserved g t c =
    let R = g.V.Visitor.steps in
    let ms = c.deref-message-items.result.now in
    let k = c.turns.at in
    let m = c.message-item.result in
    let path = c.args.path.now in
    let tag : ℤ = to_z w32 (of_z w32 c.args.tag) in
    let scope = c.args.scope.now in
    let file = c.args.file in
    let parent = c.args.parent in
    let o = c.args.offsets.now in
    let place : c.as_slice.result.now ≡ entry path tag k = c.as_slice.ensures.value ∙ c.in_ok-place.ensures.path in
    let now = subst (λ p. Runs R c.turns.visitor (tree_declarations p scope file parent (past_trees o (messages_of (map tree_of (take k ms)))) (tree_of m)) c.visit_message.new.visitor) place
    (subst (λ o. Runs R c.turns.visitor (tree_declarations c.as_slice.result.now scope file parent o (tree_of m)) c.visit_message.new.visitor) c.turns.invariant.counts c.in_ok-visit_message.ensures.runs) in
    record {
      runs = run_tree R path tag scope file parent o ms k m _ _ _ (omega arith) c.message-item.is c.turns.invariant.runs now;
      counts = c.in_ok-visit_message.ensures.counts ∙ ap (λ o. past_tree o (tree_of m)) c.turns.invariant.counts
          ∙ ap (λ x. past_tree (past_trees o (messages_of (map tree_of (take k ms)))) (tree_of x)) c.message-item.is ∙ sym (past_more o ms k m (omega arith));
      keeps = g.met.V.Visitor.kept_on c.args.file _ _ _ c.turns.invariant.keeps c.visit_message.ensures.keeps;
    }

pub visit_messages-returns : goal.visit_messages-returns
visit_messages-returns g t c =
    let R = g.V.Visitor.steps in
    let path = c.args.path.now in
    let given : ℤ = to_z w32 (of_z w32 c.args.tag) in
    let scope = c.args.scope.now in
    let file = c.args.file in
    let parent = c.args.parent in
    let o = c.args.offsets.now in
    let all : take c.turns.at c.deref-message-items.result.now ≡ c.args.messages.now.items = take_all c.turns.at c.deref-message-items.result.now (omega arith) ∙ c.deref-message-items.ensures.value in
    record {
      runs = subst (λ tag. Runs R c.args.visitor.now (trees_declarations path tag scope file parent 0 o (messages_of (map tree_of c.args.messages.now.items))) c.turns.visitor) (to_z-of_z w32 c.args.tag c.ranges.tag)
          (subst (λ ms. Runs R c.args.visitor.now (trees_declarations path given scope file parent 0 o (messages_of (map tree_of ms))) c.turns.visitor) all c.turns.invariant.runs);
      counts = c.turns.invariant.counts ∙ ap (λ ms. past_trees o (messages_of (map tree_of ms))) all;
      keeps = c.turns.invariant.keeps;
    }

pub visit_messages-returns-in_err-place : goal.visit_messages-returns-in_err-place
visit_messages-returns-in_err-place g t c =
    let r = c.from_residual in
    let p = err_from_is_err_and r.result r.ensures.1 in
    rw p.1 (record { runs = tt; counts = tt; keeps = c.turns.invariant.keeps })

pub visit_messages-returns-in_err-visit_message : goal.visit_messages-returns-in_err-visit_message
visit_messages-returns-in_err-visit_message g t c =
    let r = c.from_residual-in_err-visit_message in
    let p = err_from_is_err_and r.result r.ensures.1 in
    rw p.1 (record { runs = tt; counts = tt; keeps = g.met.V.Visitor.kept_on c.args.file _ _ _ c.turns.invariant.keeps c.visit_message.ensures.keeps })

pub visit_message-returns-clause-runs : goal.visit_message-returns-clause-runs
visit_message-returns-clause-runs g t c =
    let R = g.V.Visitor.steps in
    let m = c.args.message.now in
    let own = parts_of m in
    let nested = messages_of (map tree_of (out-DescriptorProto m).nested_type.items) in
    let path = c.args.path.now in
    let scope = c.args.scope.now in
    let file = c.args.file in
    let parent = c.args.parent in
    let o = c.args.offsets.now in
    let given = c.as_str-inner.result.now in
    let full = join scope (text_of own.name) in
    let name : given ≡ full = c.as_str-inner.ensures.value ∙ c.in_ok-full_name.ensures.name in
    let number : c.in_ok-number.number ≡ o.messages = c.in_ok-number.ensures.index in
    let i = c.in_ok-number.number in
    let counted : Offsets = record o { messages = c.next_index.new.count } in
    let past : counted ≡ past_message o = ap (λ n. record o { messages = n }) c.in_ok-number.ensures.more in
    let behind : c.visit_messages.new.offsets ≡ past_trees (past_message o) nested = c.in_ok-visit_messages.ensures.counts ∙ ap (λ x. past_trees x nested) past in
    let v0 = c.args.visitor.now in
    let v1 = c.visit_message.new.self in
    let v2 = c.visit_parts.new.visitor in
    let v3 = c.visit_messages.new.visitor in
    let v5 = c.visit_message_items.new.visitor in
    let v6 = c.visit_parts-2.new.visitor in
    let first = subst (λ n. R v0 (message_declaration path n file parent o.messages own) v1) name
    (subst (λ n. R v0 (message_declaration path given file parent n own) v1) number c.in_ok-visit_message.ensures.step) in
    let fields = subst (λ n. Runs R v1 (each (one_field path n file o.messages) 0 own.field) v2) name
    (subst (λ n. Runs R v1 (each (one_field path given file n) 0 own.field) v2) number c.in_ok-visit_parts.ensures.runs) in
    let inner = subst (λ n. Runs R v2 (trees_declarations path (pos 3) n file (Some o.messages) 0 (past_message o) nested) v3) name
    (subst (λ n. Runs R v2 (trees_declarations path (pos 3) given file (Some n) 0 (past_message o) nested) v3) number
    (subst (λ x. Runs R v2 (trees_declarations path (pos 3) given file (Some i) 0 x nested) v3) past c.in_ok-visit_messages.ensures.runs)) in
    let items = subst (λ n. Runs R v3 (message_items path n file o.messages (past_trees (past_message o) nested) own) v5) name
    (subst (λ n. Runs R v3 (message_items path given file n (past_trees (past_message o) nested) own) v5) number
    (subst (λ x. Runs R v3 (message_items path given file i x own) v5) behind c.in_ok-visit_message_items.ensures.runs)) in
    let two = runs_split R (each (one_enum path (pos 4) full file (Some o.messages) (past_trees (past_message o) nested).enums) 0 own.enum_type)
    (each (one_extension path (pos 6) full file (Some o.messages) (past_trees (past_message o) nested).extensions) 0 own.extension) v3 v5 items in
    let v4 = two.0 in
    let oneofs = subst (λ n. Runs R v5 (each (one_oneof path n file o.messages) 0 own.oneof_decl) v6) name
    (subst (λ n. Runs R v5 (each (one_oneof path given file n) 0 own.oneof_decl) v6) number c.in_ok-visit_parts-2.ensures.runs) in
    let all : Runs R v0 (tree_declarations path scope file parent o (message own nested)) v6 =
    (v1, (first, runs_append R _ _ v1 v2 v6 fields (runs_append R _ _ v2 v3 v6 inner (runs_append R _ _ v3 v4 v6 two.1.0 (runs_append R _ _ v4 v5 v6 two.1.1 oneofs))))) in
    subst (λ x. Runs R v0 (tree_declarations path scope file parent o x) v6) (sym (tree_of-out m)) all

pub visit_message-returns-clause-counts : goal.visit_message-returns-clause-counts
visit_message-returns-clause-counts g t c =
    let m = c.args.message.now in
    let own = parts_of m in
    let nested = messages_of (map tree_of (out-DescriptorProto m).nested_type.items) in
    let o = c.args.offsets.now in
    let past : (record o { messages = c.next_index.new.count }) ≡ past_message o = ap (λ n. record o { messages = n }) c.in_ok-number.ensures.more in
    let within = c.visit_messages.new.offsets in
    let behind : within ≡ past_trees (past_message o) nested = c.in_ok-visit_messages.ensures.counts ∙ ap (λ x. past_trees x nested) past in
    c.in_ok-visit_message_items.ensures.counts
    ∙ ap (λ x. past_extensions (past_enums x (length own.enum_type)) (length own.extension)) behind
    ∙ ap (past_tree o) (sym (tree_of-out m))

pub visit_message-returns-clause-keeps : goal.visit_message-returns-clause-keeps
visit_message-returns-clause-keeps g t c =
    let on = g.met.V.Visitor.kept_on c.args.file in
    on _ _ _ (on _ _ _ (on _ _ _ (on _ _ _ c.visit_message.ensures.keeps c.visit_parts.ensures.keeps) c.visit_messages.ensures.keeps) c.visit_message_items.ensures.keeps) c.visit_parts-2.ensures.keeps

pub visit_message-returns-in_err-full_name : goal.visit_message-returns-in_err-full_name
visit_message-returns-in_err-full_name g t c =
    let r = c.from_residual in
    let p = err_from_is_err_and r.result r.ensures.1 in
    rw p.1 (record { runs = tt; counts = tt; keeps = g.met.V.Visitor.kept_same c.args.file c.args.visitor.now })

pub visit_message-returns-in_err-number : goal.visit_message-returns-in_err-number
visit_message-returns-in_err-number g t c =
    let r = c.from_residual-in_err-number in
    let p = err_from_is_err_and r.result r.ensures.1 in
    rw p.1 (record { runs = tt; counts = tt; keeps = g.met.V.Visitor.kept_same c.args.file c.args.visitor.now })

pub visit_message-returns-in_err-visit_message : goal.visit_message-returns-in_err-visit_message
visit_message-returns-in_err-visit_message g t c =
    let r = c.from_residual-in_err-visit_message in
    let p = err_from_is_err_and r.result r.ensures.1 in
    rw p.1 (record { runs = tt; counts = tt; keeps = c.visit_message.ensures.keeps })

pub visit_message-returns-in_err-visit_parts : goal.visit_message-returns-in_err-visit_parts
visit_message-returns-in_err-visit_parts g t c =
    let r = c.from_residual-in_err-visit_parts in
    let p = err_from_is_err_and r.result r.ensures.1 in
    let on = g.met.V.Visitor.kept_on c.args.file in
    rw p.1 (record { runs = tt; counts = tt; keeps = on _ _ _ c.visit_message.ensures.keeps c.visit_parts.ensures.keeps })

pub visit_message-returns-in_err-visit_messages : goal.visit_message-returns-in_err-visit_messages
visit_message-returns-in_err-visit_messages g t c =
    let r = c.from_residual-in_err-visit_messages in
    let p = err_from_is_err_and r.result r.ensures.1 in
    let on = g.met.V.Visitor.kept_on c.args.file in
    rw p.1 (record { runs = tt; counts = tt; keeps = on _ _ _ (on _ _ _ c.visit_message.ensures.keeps c.visit_parts.ensures.keeps) c.visit_messages.ensures.keeps })

pub visit_message-returns-in_err-visit_message_items : goal.visit_message-returns-in_err-visit_message_items
visit_message-returns-in_err-visit_message_items g t c =
    let r = c.from_residual-in_err-visit_message_items in
    let p = err_from_is_err_and r.result r.ensures.1 in
    let on = g.met.V.Visitor.kept_on c.args.file in
    rw p.1 (record { runs = tt; counts = tt; keeps = on _ _ _ (on _ _ _ (on _ _ _ c.visit_message.ensures.keeps c.visit_parts.ensures.keeps) c.visit_messages.ensures.keeps) c.visit_message_items.ensures.keeps })

pub visit_message-returns-in_err-visit_parts-2 : goal.visit_message-returns-in_err-visit_parts-2
visit_message-returns-in_err-visit_parts-2 g t c =
    let r = c.from_residual-in_err-visit_parts-2 in
    let p = err_from_is_err_and r.result r.ensures.1 in
    let on = g.met.V.Visitor.kept_on c.args.file in
    rw p.1 (record { runs = tt; counts = tt; keeps = on _ _ _ (on _ _ _ (on _ _ _ (on _ _ _ c.visit_message.ensures.keeps c.visit_parts.ensures.keeps) c.visit_messages.ensures.keeps) c.visit_message_items.ensures.keeps) c.visit_parts-2.ensures.keeps })
