pub mod Pages
pub mod Walking
