-- What is added to a field depends on the other fields only by which of them share a oneof.
use Rattle.std.proofs.Common.{◌≡◌, ℕ, ◌==◌, ◌||◌, ◌&&◌, not, Bool, false, cond, List, [], ◌∷◌, Option, None, Some, map, ◌++◌, refl, ap, ◌∙◌}
use Rattle.std.specs.List.{list_any}
use mathlib.Core.Path.{fun_ext}
use Rattle.protobuf_model.specs.Values.{Content, Held, Message, absent}
use Rattle.protobuf_model.specs.Types.{Part, Label, one, many, keyed, Field, oneof_of, same_oneof, rival}
use Rattle.protobuf_model.specs.Bytes.{field_numbers}
use Rattle.protobuf_model.specs.Meaning.{items, if_any, pairs, if_some, put_all}
use Rattle.text_model.specs.Value.{entry_of, is_set, has_rival, assign, settled, add_all, add_one}

module _ (a b : ℕ → Option Field) (same : (n : ℕ) → oneof_of (a n) ≡ oneof_of (b n)) where
  pub rival_same : (n q : ℕ) → rival a n q ≡ rival b n q
  rival_same n q =
      ap (λ o. not (q == n) && same_oneof o (oneof_of (a q))) (same n)
      ∙ ap (λ o. not (q == n) && same_oneof (oneof_of (b n)) o) (same q)

  abbrev any_rival : (ℕ → Bool) → Message → Option ℕ → Bool
  any_rival rivals m o = elim o [ None ↦ false | Some k ↦ list_any (λ q. rivals q && is_set (m q)) field_numbers ]

  has_rival_same : (n : ℕ) (m : Message) → has_rival a n m ≡ has_rival b n m
  has_rival_same n m = ap (λ r. any_rival r m (oneof_of (a n))) (fun_ext (rival_same n)) ∙ ap (any_rival (rival b n) m) (same n)

  pub assign_same : (n : ℕ) (h : Held) (m : Message) → assign a n h m ≡ assign b n h m
  assign_same n h m = fun_ext (λ q. ap (λ r. cond (q == n) h (cond r absent (m q))) (rival_same n q))

  pub add_all_same : (n : ℕ) (part : Part) (l : Label) (m : Message) (cs : List Content) → add_all a n part l m cs ≡ add_all b n part l m cs
  add_all_same n part one m cs = refl
  add_all_same n part (many packed) m cs = ap Some (assign_same n (if_any (items (m n) ++ cs)) m)
  add_all_same n part (keyed key) m cs = ap Some (assign_same n (if_some (put_all (pairs (m n)) (map (entry_of key part) cs))) m)

  pub add_one_same : (n : ℕ) (part : Part) (l : Label) (m : Message) (c : Content) → add_one a n part l m c ≡ add_one b n part l m c
  add_one_same n part one m c =
      ap (λ r. cond (is_set (m n) || r) None (Some (assign a n (settled part c) m))) (has_rival_same n m)
      ∙ ap (λ x. cond (is_set (m n) || has_rival b n m) None (Some x)) (assign_same n (settled part c) m)
  add_one_same n part (many packed) m c = add_all_same n part (many packed) m (c ∷ [])
  add_one_same n part (keyed key) m c = add_all_same n part (keyed key) m (c ∷ [])
