-- When bytes are a page.

pub mod Page
