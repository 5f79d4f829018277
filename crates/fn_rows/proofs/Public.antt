-- What crates above fn_core may cite.
pub use Rattle.fn_rows.proofs.Put.{put_here, put_there}
