-- What is alike by one likeness is so by a wider one.
use Rattle.std.proofs.Common.{List, [], ◌∷◌}
use Rattle.reflect_scalar.specs.declared.map_key.MapKey.{MapKey}
use Rattle.reflect_message.specs.Names.{DynamicMessage, Value}
use Rattle.print_parts.specs.Entries.{Entry}
use Rattle.print_parts.specs.Pairwise.{Pairwise}
use Rattle.print_view.proofs.Alike.{AlikeOnes, AlikePairs, AlikeValues, Likeness, alike_lists, alike_maps, alike_messages, alike_ones, one_single, one_value}
use Rattle.print_view.proofs.AlikeRows.{AlikeEntries, AreAlike, one_extension, one_field, one_record}

each_pair : {X : Type 0} (R S : X → X → Type 0) → ((x y : X) → R x y → S x y) → (xs ys : List X) → Pairwise R xs ys → Pairwise S xs ys
each_pair R S wider [] ys none = none
each_pair R S wider (x ∷ xs) ys (y, rest, one, more, is) = (y, rest, wider x y one, each_pair R S wider xs rest more, is)

module _ (A B : Likeness) (same : A.same → B.same) (messages : (m n : DynamicMessage) → A.messages m n → B.messages m n) where
  one_wider : (v w : Value) → AlikeOnes A v w → AlikeOnes B v w
  one_wider v w (one_value x is) = one_value (same x) is
  one_wider v w (one_single s at also) = one_single s at also
  one_wider v w (alike_messages m n at also r) = alike_messages m n at also (messages m n r)

  value_wider : (v w : Value) → AlikeValues A v w → AlikeValues B v w
  value_wider v w (alike_ones one) = alike_ones (one_wider v w one)
  value_wider v w (alike_lists vs ws at also pairs) = alike_lists vs ws at also (each_pair (AlikeOnes A) (AlikeOnes B) one_wider vs ws pairs)
  value_wider v w (alike_maps es gs at also pairs) =
      alike_maps es gs at also (each_pair (AlikePairs A) (AlikePairs B) (λ (e g : MapKey × Value) h. (h.0, one_wider e.1 g.1 h.1)) es gs pairs)

  entry_wider : (d e : Entry) → AlikeEntries A d e → AlikeEntries B d e
  entry_wider d e (one_record r is also) = one_record r is also
  entry_wider d e (one_field pool f v w is also alike) = one_field pool f v w is also (value_wider v w alike)
  entry_wider d e (one_extension pool f v w is also alike) = one_extension pool f v w is also (value_wider v w alike)

  pub row_wider : (ds es : List Entry) → AreAlike A ds es → AreAlike B ds es
  row_wider ds es rows = each_pair (AlikeEntries A) (AlikeEntries B) entry_wider ds es rows
