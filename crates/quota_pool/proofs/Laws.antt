-- What crates above may cite.
pub use Rattle.quota_pool.proofs.Calling.{left_after}
pub use Rattle.quota_pool.proofs.Books.{seen_in_book}
pub use Rattle.quota_pool.proofs.Closes.{found_at}
