-- What is told of the types of a pool, and behind them those of a batch.
use Rattle.std.specs.Prelude.{◌≡◌, ℕ, ◌-◌, List, [], false, cond, nat_lt, length, slice_get, Option, Some, None, string_bytes}
use Rattle.std.specs.Bool.{Decides}
use Rattle.std.specs.List.{Any}
use Rattle.reflect_tables.specs.Views.{enum_of, ranges_of}
use Rattle.reflect_tables.specs.declared.stored.StoredEnum.{StoredEnum}
use Rattle.reflect_tables.specs.declared.stored.StoredMessage.{StoredMessage}
use Rattle.reflect_rules.specs.TypesSay.{TypesSay}
use Rattle.reflect_rules.specs.Rules.{Values}
use Rattle.reflect_passes.specs.declared.linked_types.LinkedTypes.{LinkedTypes}

abbrev pub message_at : LinkedTypes → ℕ → Option StoredMessage
message_at t i = cond (nat_lt i (length t.old.now.messages.items))
    (slice_get t.old.now.messages.items i)
    (slice_get t.new.now.messages.items (i - length t.old.now.messages.items))

abbrev pub linked_says : LinkedTypes → TypesSay
linked_says t = record {
  reserved = λ i. elim (message_at t i) [ None ↦ [] | Some m ↦ ranges_of m.reserved_numbers ];
  extensions = λ i. elim (message_at t i) [ None ↦ [] | Some m ↦ ranges_of m.extension_numbers ];
  is_entry = λ i. elim (message_at t i) [ None ↦ false | Some m ↦ m.is_entry ];
  name = λ i. elim (message_at t i) [ None ↦ [] | Some m ↦ string_bytes m.full_name ];
}

abbrev pub enum_at : LinkedTypes → ℕ → Option StoredEnum
enum_at t i = cond (nat_lt i (length t.old.now.enums.items)) (slice_get t.old.now.enums.items i)
    (slice_get t.new.now.enums.items (i - length t.old.now.enums.items))

-- one of the enum's values has the name
abbrev pub HasValue : Option StoredEnum → List ℕ → Type 0
HasValue None name = ⊥
HasValue (Some e) name = Any (λ v. v.name ≡ name) (enum_of e).values

abbrev pub linked_values : LinkedTypes → Values
linked_values t i name has = Decides has (HasValue (enum_at t i) name)
