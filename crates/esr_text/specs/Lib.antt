-- The definition of markup, which pictures and pages are.

pub mod Markup
