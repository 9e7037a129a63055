-- What is said below of pools that were linked and settled, passed on to the laws above.
pub use Rattle.linked_view.specs.Kept.{IsKept}
pub use Rattle.linked_view.specs.Alone.{IsRecorded}
pub use Rattle.linked_view.specs.Pools.{IsPool}
pub use Rattle.settled_view.specs.BuiltBut.{IsBuiltBut}
