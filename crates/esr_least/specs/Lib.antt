-- The audit of a query without a certificate.

pub mod Audits
