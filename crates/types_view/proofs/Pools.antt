-- What is proved below of pools that were linked and settled, passed on to the laws above.
pub use Rattle.linked_view.proofs.Stays.{empty_sound}
pub use Rattle.settled_view.proofs.Faults.{no_faults}
pub use Rattle.settled_view.proofs.Transfer.{kept_before}
