use Rattle.std.proofs.Common.{◌<◌, length, arith, refl}
use Rattle.std.specs.Iterator.{item_count}
use Rattle.reflect_link.specs.declared.file.FileDescriptor.{FileDescriptor}
use Rattle.reflect_link.specs.FilesLeft.{files_left}
use Rattle.reflect_link.proofs.NextPlace.{gives_next, goes_next}
use Rattle.reflect_link.proofs.pool_readers.AllFilesIterator.next.Goals as goal

pub returns-then-self-clause-steps : goal.returns-then-self-clause-steps
returns-then-self-clause-steps c =
    let self = c.args.self.now in
    let there : self.next < length self.pool.now.files = omega (arith, c.if-self.true, self.whole) in
    gives_next {X = FileDescriptor} (λ x. x.pool.now) (λ x. x.index) self.pool.now self.next _ c.file_at.result there c.file_at.ensures.there c.file_at.ensures.pool c.file_at.ensures.index

pub returns-then-self-clause-goes : goal.returns-then-self-clause-goes
returns-then-self-clause-goes c =
    let self = c.args.self.now in
    let there : self.next < length self.pool.now.files = omega (arith, c.if-self.true, self.whole) in
    goes_next _ (item_count files_left) self _ c.file_at.result self.pool.now self.next _ there tt refl refl
