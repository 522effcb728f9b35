-- The words of networks that the definitions and proofs of this crate cite, passed on from one place. Declares nothing.
pub use Rattle.esr_cert.specs.declared.network.Arc.{Arc}
pub use Rattle.esr_cert.specs.declared.residual.ResidualArc.{ResidualArc}
pub use Rattle.esr_cert.specs.declared.residual.ResidualArc.TheVariants.{Forward, Backward}
