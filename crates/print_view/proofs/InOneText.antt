-- Messages are printed in one text: whatever they hold, where Anys are not expanded, and those in shape in each form.
use Rattle.std.proofs.Common.{◌≡◌, ℕ, true, false, true≢false, refl, sym, ◌∙◌}
use Rattle.protox_lex.specs.Class.{Text}
use Rattle.reflect_tables.specs.Types.{PoolType}
use Rattle.reflect_message.specs.Names.{DynamicMessage}
use Rattle.reflect_print.specs.MessageTexts.{IsMessageText}
use Rattle.text_lines.specs.declared.options.FormatOptions.{FormatOptions}
use Rattle.message_view.specs.Shaped.{Shaped}
use Rattle.message_view.specs.Sound.{IsSound}
use Rattle.print_view.proofs.Alike.{AlikeMessages, Likeness, Within, as_held, below}
use Rattle.print_view.proofs.AlikeEntries.{declared_alike, others_alike}
use Rattle.print_view.proofs.ItsOwn.{shape_alike}
use Rattle.print_view.proofs.OneExpansion.{nor_both, not_both, one_expansion}
use Rattle.print_view.proofs.OneText.{PrintsAlike, printed_once}
use Rattle.print_view.proofs.SameMessages.{Same, same_declared, same_message, same_others}
use Rattle.print_view.proofs.Wider.{row_wider}

-- nothing is expanded
same_printed : (form : FormatOptions) → form.expand_any ≡ false → PrintsAlike form Same
same_printed form plain = record {
  declared = same_declared form;
  others = same_others form;
  one = λ m n alike expands url link body inner some also. absurd (true≢false (sym expands ∙ plain));
  not_both = λ m n alike expands url body some none. absurd (true≢false (sym expands ∙ plain));
  nor_both = λ m n alike expands url body some none. absurd (true≢false (sym expands ∙ plain));
}

pub plain_once : (form : FormatOptions) → form.expand_any ≡ false → (m : DynamicMessage) (a b : Text) → IsMessageText form m a → IsMessageText form m b → a ≡ b
plain_once form plain m a b text also = printed_once form Same (λ x m. same_message m) (same_printed form plain) m (same_message m) a b text also

-- messages that are alike with however many levels
abbrev Deep : PoolType → Likeness
Deep pool = record { same = ⊥; messages = λ m n. (levels : ℕ) × AlikeMessages pool levels m n }

deep_printed : (form : FormatOptions) (pool : PoolType) → IsSound pool → PrintsAlike form (Deep pool)
deep_printed form pool sound = record {
  declared = λ m n (alike : (levels : ℕ) × AlikeMessages pool levels m n) ds es one two.
      row_wider (Within pool (below alike.0)) (Deep pool) (λ x. x) (λ a b h. (below alike.0, h)) ds es
      (declared_alike form pool (below alike.0) m n (as_held pool alike.0 m n alike.1) ds es one two);
  others = λ m n (alike : (levels : ℕ) × AlikeMessages pool levels m n) ds es one two.
      row_wider (Within pool (below alike.0)) (Deep pool) (λ x. x) (λ a b h. (below alike.0, h)) ds es
      (others_alike form pool (below alike.0) m n (as_held pool alike.0 m n alike.1) ds es one two);
  one = λ m n (alike : (levels : ℕ) × AlikeMessages pool levels m n) expands url link body inner some also.
      let both = one_expansion pool sound (below alike.0) m n (as_held pool alike.0 m n alike.1) some also in
      (both.0, (101, both.1));
  not_both = λ m n (alike : (levels : ℕ) × AlikeMessages pool levels m n) expands url body some none. not_both pool sound (below alike.0) m n (as_held pool alike.0 m n alike.1) some none;
  nor_both = λ m n (alike : (levels : ℕ) × AlikeMessages pool levels m n) expands url body some none. nor_both pool sound (below alike.0) m n (as_held pool alike.0 m n alike.1) some none;
}

pub shaped_once : (form : FormatOptions) (levels : ℕ) (m : DynamicMessage) → IsSound m.descriptor.pool.now → Shaped levels m → (a b : Text) → IsMessageText form m a → IsMessageText form m b → a ≡ b
shaped_once form levels m sound shape a b text also =
    printed_once form (Deep m.descriptor.pool.now) (λ x m. absurd x) (deep_printed form m.descriptor.pool.now sound) m (levels, shape_alike m.descriptor.pool.now sound levels m refl shape) a b text also
