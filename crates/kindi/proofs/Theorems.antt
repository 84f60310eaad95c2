-- The theorems about the scheme, for any well-formed parameters, passed on from the files that prove them. Assumes nothing.

-- The four sets are well formed, so each theorem holds of each of them.
pub use Rattle.kindi.proofs.Sets.{of_set_well}
-- The lengths of the four sets are the numbers of 01's table.
pub use Rattle.kindi.proofs.Lengths.{lengths}
-- No work area of well-formed parameters is over 65,536 bytes.
pub use Rattle.kindi.proofs.Lengths.{work_areas}
-- Decryption gives (coins, message) exactly when the coins are the ones found by rounding and encrypting the message with them
-- under the stored public key gives the same ciphertext.
pub use Rattle.kindi.proofs.Strict.{decrypt_iff}
-- The like for shared keys.
pub use Rattle.kindi.proofs.Strict.{decaps_iff}
-- The value that decryption rounds is g·s₁ plus the noise, modulo q, whatever the seeds.
pub use Rattle.kindi.proofs.Value.{value_is}
-- Whatever the seeds, a clear pair comes back exactly.
pub use Rattle.kindi.proofs.Correct.{clear_returns}
-- So does a shared key whose coins are clear with their digest.
pub use Rattle.kindi.proofs.Correct.{clear-key_returns}
-- So no two clear pairs share a ciphertext.
pub use Rattle.kindi.proofs.Correct.{clear_injective}
-- Clear is what the noise call says: under any secret key of which it answers clear, the pair comes back.
pub use Rattle.kindi.proofs.Correct.{noise-clear}
-- Each part of an encryption to several recipients is what encryption to that recipient alone gives.
pub use Rattle.kindi.proofs.Recipients.{each_part}
-- It depends on no other recipient's key or coins.
pub use Rattle.kindi.proofs.Recipients.{each_own}
-- Whatever the seeds of a recipient, its clear pair comes back exactly from its part.
pub use Rattle.kindi.proofs.Recipients.{clear_each_returns}
-- Refusal 14 is exactly that some two recipients have equal coins, where the checks before it are passed.
pub use Rattle.kindi.proofs.Recipients.{each_equal_iff}
-- The work areas of the four sets have the lengths of the table.
pub use Rattle.kindi.proofs.Lengths.{areas}
-- The examples of 01.
pub use Rattle.kindi.proofs.Examples.{examples}
