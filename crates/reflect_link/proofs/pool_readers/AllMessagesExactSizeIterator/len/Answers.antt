use Rattle.std.proofs.Common.{rules, ◌≡◌, ◌∙◌, ◌-◌, ap, length, sym}
use Rattle.reflect_pool.proofs.PlacesLeft.{count_left}
use Rattle.reflect_link.proofs.pool_readers.AllMessagesExactSizeIterator.len.Goals as goal

pub returns-clause-value : goal.returns-clause-value
returns-clause-value c =
    let s = c.args.self.now in
    let left : c.saturating_sub.result ≡ s.end - s.next = search rules in
    left ∙ ap (λ n. n - s.next) s.whole ∙ sym (count_left s.pool.now s.next (length s.pool.now.messages))
