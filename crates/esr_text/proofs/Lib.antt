-- Parts of markup compose to well-formed markup.

pub mod Building
